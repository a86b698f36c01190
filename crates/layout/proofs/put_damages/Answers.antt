-- `layout::put_damages` meets its contract: each part is stored after the one before. Assumes nothing.
use mathlib.Core.Path.{refl}
use Rattle.byte_numbers.specs.Numbers.{two}
use Rattle.layout.specs.Bytes.{halves}
use Rattle.layout.specs.Places.{damage_of, damage_bytes}
use Rattle.byte_numbers.specs.laws.Storing.{and_then}
use Rattle.layout.proofs.put_damages.Goals as goal

pub returns : goal.returns
unfolding damage_bytes damage_of halves two
returns c =
    let first = c.put_ends.ensures in
    and_then (and_then (and_then (and_then first c.put_ends-2.ensures refl) c.put_ends-3.ensures refl) c.put_ends-4.ensures refl) c.put_ends-5.ensures refl
