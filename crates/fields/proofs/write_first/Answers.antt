-- `fields::write_first` meets its contract: each field is stored after the one before. Assumes nothing.
use mathlib.Core.Path.{refl}
use Rattle.byte_numbers.specs.Numbers.{one, two, four}
use Rattle.byte_numbers.specs.laws.Storing.{and_then}
use Rattle.fields.specs.Bytes.{settings, first_bytes}
use Rattle.fields.proofs.write_first.Goals as goal

pub returns : goal.returns
unfolding first_bytes settings one two four
returns c =
    and_then c.write_settings.ensures
    (and_then c.put.ensures
    (and_then c.put-2.ensures
    (and_then c.put-3.ensures
    (and_then c.put-4.ensures (and_then c.put-5.ensures c.put-6.ensures refl) refl) refl) refl) refl) refl
