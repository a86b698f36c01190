-- A line of 44 or 48 digits is read as the frame that it spells.
use Rattle.std.proofs.Common.{sym, rules}
use Rattle.frame.specs.Checks.{line_read}
use Rattle.frame.specs.laws.Lengths.{is_first, is_second, is_neither}
use Rattle.frame.specs.laws.Checks.{read_length}
use Rattle.frame.proofs.read_line.Goals as goal

pub returns-in-44 : goal.returns-in-44
unfolding line_read
returns-in-44 c =
    simp (is_first 44 48 c.args.line.now c.in-44.is) c.spelled.ensures

pub returns-in-48 : goal.returns-in-48
unfolding line_read
returns-in-48 c =
    simp (is_second 44 48 c.args.line.now c.in-48.is) c.spelled-in-48.ensures

pub returns-in_default : goal.returns-in_default
returns-in_default c =
    sym (read_length c.args.line.now (is_neither 44 48 c.args.line.now (search rules) (search rules)))
