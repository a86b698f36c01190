-- `old_bytes::write` meets its contract: each part is stored after the one before. Assumes nothing.
use mathlib.Core.Path.{refl}
use borrow.Author.Rules.{rules}
use Rattle.byte_numbers.specs.Numbers.{one, four, eight}
use Rattle.byte_numbers.specs.laws.Storing.{and_then}
use Rattle.fields.specs.Bytes.{settings}
use Rattle.old_bytes.specs.Bytes.{field_bytes, old_bytes}
use Rattle.old_case.specs.laws.Usable.{usable}
use Rattle.old_bytes.proofs.write.Goals as goal

pub put_field-requires : goal.put_field-requires
put_field-requires c = (search rules, (usable _ c.requires.1).mass)

pub put_field-requires-2 : goal.put_field-requires-2
put_field-requires-2 c = (search rules, (usable _ c.requires.1).mean)

pub put_field-requires-3 : goal.put_field-requires-3
put_field-requires-3 c = (search rules, (usable _ c.requires.1).stoichiometric)

pub put_field-requires-4 : goal.put_field-requires-4
put_field-requires-4 c = (search rules, (usable _ c.requires.1).heat)

pub put_field-requires-5 : goal.put_field-requires-5
put_field-requires-5 c = (search rules, (usable _ c.requires.1).distance)

pub put_field-requires-6 : goal.put_field-requires-6
put_field-requires-6 c = (search rules, (usable _ c.requires.1).body)

pub returns : goal.returns
unfolding old_bytes settings field_bytes one four eight
returns c =
    (and_then c.write_settings.ensures
    (and_then c.put_field.ensures
    (and_then c.put_field-2.ensures
    (and_then c.put_field-3.ensures
    (and_then c.put_field-4.ensures (and_then c.put_field-5.ensures c.put_field-6.ensures refl) refl) refl) refl) refl) refl
    ).all
