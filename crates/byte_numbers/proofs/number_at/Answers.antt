-- `byte_numbers::number_at` meets its contract: the bytes from the place on are the last of eight. Assumes nothing.
use Rattle.std.proofs.Common.{◌∙◌}
use Rattle.byte_numbers.proofs.Sizes.{read, number_below}
use Rattle.byte_numbers.proofs.number_at.Goals as goal

pub returns-clause-number : goal.returns-clause-number
returns-clause-number g c =
    c.from_be_bytes.ensures ∙ read c.args.s.now c.args.at g.row.N c.requires.size c.requires.in_bounds c.copy_from_slice.ensures.after

pub returns-clause-below : goal.returns-clause-below
returns-clause-below g c =
    rw (returns-clause-number g c) (number_below c.args.s.now c.args.at g.row.N (λ i. (c.type_inv.s i).fits) c.requires.size)
