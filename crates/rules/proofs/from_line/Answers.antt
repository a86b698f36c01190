-- `rules::from_line` meets its contract: what `answer_to` makes of the due verdict. Assumes nothing.
use mathlib.Core.Path.{sym, ◌∙◌}
use Rattle.frame.specs.laws.Verdicts.{line_accepted}
use Rattle.rules.proofs.from_line.Goals as goal

pub answer_to-requires : goal.answer_to-requires
answer_to-requires c =
    λ d e. (line_accepted _ d _ (sym c.decide_line.ensures ∙ e)).taken.accepted
