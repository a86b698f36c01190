-- Tests 1 and 2, then 3 to 6.
use Rattle.std.proofs.Common.{sym, rules}
use Rattle.frame.specs.laws.Checks.{line_tested}
use Rattle.frame.proofs.check_line.Goals as goal

pub returns-in_err-read_line : goal.returns-in_err-read_line
returns-in_err-read_line c =
    rw (sym (line_tested c.args.line.now), sym c.read_line.ensures) (search rules)

pub returns : goal.returns
returns c =
    rw (sym (line_tested c.args.line.now), sym c.read_line.ensures) (search rules)
