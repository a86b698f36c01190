-- `fields::write` meets its contract: 22 bytes in the standard air, 24 in another. Assumes nothing.
use mathlib.Core.Path.{sym, ap, ◌∙◌}
use native.Mathlib.Omega.{arith}
use lib.Seq.{sets}
use Rattle.fields.specs.laws.Back.{frame_least, other_length, standard_frame, other_filled}
use Rattle.fields.proofs.write.Goals as goal

pub write_long-requires : goal.write_long-requires
write_long-requires c =
    omega (arith, c.requires, other_length c.args.c c.if-c-ne-STANDARD.true)

pub write_first-requires : goal.write_first-requires
write_first-requires c =
    omega (arith, c.requires, frame_least c.args.c)

pub returns-then-c-ne-STANDARD : goal.returns-then-c-ne-STANDARD
returns-then-c-ne-STANDARD c =
    c.write_long.ensures.all ∙ ap (sets c.args.s.now 0) (other_filled c.args.c c.if-c-ne-STANDARD.true)

pub returns-else-c-ne-STANDARD : goal.returns-else-c-ne-STANDARD
returns-else-c-ne-STANDARD c =
    c.write_first.ensures.all ∙ ap (sets c.args.s.now 0) (sym (standard_frame c.args.c c.if-c-ne-STANDARD.false))
