-- Tests 1 to 6, then 7 and 8.
use Rattle.std.proofs.Common.{sym, ◌∙◌, rules}
use Rattle.frame.specs.laws.Checks.{frame_heated}
use Rattle.frame.specs.laws.Verdicts.{frame_judged}
use Rattle.frame.proofs.decide_frame.Goals as goal

pub place-requires : goal.place-requires
place-requires c =
    frame_heated _ _ (sym c.check_frame.ensures ∙ c.in_ok-check_frame.was)

pub returns-in_err-check_frame : goal.returns-in_err-check_frame
returns-in_err-check_frame c =
    rw (frame_judged c.args.frame.now c.args.room, sym c.check_frame.ensures) (search rules)

pub returns : goal.returns
returns c =
    rw (frame_judged c.args.frame.now c.args.room, sym c.check_frame.ensures) (search rules)
