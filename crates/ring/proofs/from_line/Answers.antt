-- `ring::from_line` meets its contract. Assumes nothing.
use mathlib.Core.Path.{sym, ◌∙◌}
use Rattle.frame.specs.laws.Checks.{line_heated}
use Rattle.ring.specs.laws.Entries.{line_answers}
use Rattle.ring.proofs.from_line.Goals as goal

pub answer_to-requires : goal.answer_to-requires
answer_to-requires c d e =
    line_heated _ d (sym c.check_line.ensures ∙ e)

pub returns : goal.returns
returns c =
    let a = c.args in
    line_answers a.line.now a.threshold c.answer_to.result c.check_line.ensures c.answer_to.ensures
