-- A frame of 22 or 24 bytes is tested by its fields.
use Rattle.std.proofs.Common.{sym, ap, ◌∙◌, ⊎_elim, rules}
use Rattle.limits.specs.Checks.{case_checked}
use Rattle.frame.specs.laws.Lengths.{is_first, is_second, is_neither}
use Rattle.frame.specs.laws.Checks.{frame_checked_lem, frame_unsound_length}
use Rattle.frame.proofs.check_frame.Goals as goal

pub returns-in-22 : goal.returns-in-22
returns-in-22 c =
    c.check.ensures ∙ ap case_checked c.read.ensures ∙ sym (frame_checked_lem c.args.frame.now (⊎_elim (is_first 22 24 _) (is_second 22 24 _) c.in-22.is))

pub returns-in_default : goal.returns-in_default
returns-in_default c =
    sym (frame_unsound_length c.args.frame.now (is_neither 22 24 c.args.frame.now (search rules) (search rules)))
