-- `sheet::Sheet::add_line` meets its contract. Assumes nothing.
use mathlib.Core.Path.{sym, ◌∙◌}
use Rattle.frame.specs.laws.Checks.{line_heated}
use Rattle.sheet.specs.laws.Entering.{line_adds}
use Rattle.sheet.proofs.Sheet.add_line.Goals as goal

pub enter-answer-requires : goal.enter-answer-requires
enter-answer-requires c d e =
    line_heated _ d (sym c.check_line.ensures ∙ e)

pub returns : goal.returns
returns c =
    line_adds c.args.line.now c.check_line.ensures c.enter-answer.ensures
