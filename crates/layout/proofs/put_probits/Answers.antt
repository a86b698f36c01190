-- `layout::put_probits` meets its contract: each part is stored after the one before. Assumes nothing.
use mathlib.Core.Path.{refl}
use Rattle.byte_numbers.specs.Numbers.{four}
use Rattle.layout.specs.Bytes.{signeds}
use Rattle.layout.specs.Places.{probit_of, probit_bytes}
use Rattle.byte_numbers.specs.laws.Storing.{and_then}
use Rattle.layout.proofs.put_probits.Goals as goal

pub returns : goal.returns
unfolding probit_bytes probit_of signeds four
returns c =
    let first = c.put_probit.ensures in
    and_then (and_then (and_then (and_then first c.put_probit-2.ensures refl) c.put_probit-3.ensures refl) c.put_probit-4.ensures refl) c.put_probit-5.ensures refl
