-- Tests 1 to 6, then 7 and 8.
use Rattle.std.proofs.Common.{sym, ◌∙◌, rules}
use Rattle.frame.specs.laws.Checks.{line_heated}
use Rattle.frame.specs.laws.Verdicts.{line_judged}
use Rattle.frame.proofs.decide_line.Goals as goal

pub place-requires : goal.place-requires
place-requires c =
    line_heated _ _ (sym c.check_line.ensures ∙ c.in_ok-check_line.was)

pub returns-in_err-check_line : goal.returns-in_err-check_line
returns-in_err-check_line c =
    rw (line_judged c.args.line.now c.args.room, sym c.check_line.ensures) (search rules)

pub returns : goal.returns
returns c =
    rw (line_judged c.args.line.now c.args.room, sym c.check_line.ensures) (search rules)
