-- `rules::from_frame` meets its contract: what `answer_to` makes of the due verdict. Assumes nothing.
use mathlib.Core.Path.{sym, ◌∙◌}
use Rattle.frame.specs.laws.Verdicts.{frame_accepted}
use Rattle.rules.proofs.from_frame.Goals as goal

pub answer_to-requires : goal.answer_to-requires
answer_to-requires c =
    λ d e. (frame_accepted _ d _ (sym c.decide_frame.ensures ∙ e)).taken.accepted
