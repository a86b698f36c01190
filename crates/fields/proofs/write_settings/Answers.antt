-- `fields::write_settings` meets its contract: each byte is stored after the one before. Assumes nothing.
use mathlib.Core.Path.{refl}
use Rattle.byte_numbers.specs.Numbers.{one}
use Rattle.byte_numbers.specs.laws.Storing.{and_then}
use Rattle.fields.specs.Bytes.{settings}
use Rattle.fields.proofs.write_settings.Goals as goal

pub returns : goal.returns
unfolding settings one
returns c =
    and_then c.put.ensures
    (and_then c.put-2.ensures (and_then c.put-3.ensures c.put-4.ensures refl) refl) refl
