-- `ring::from_frame` meets its contract. Assumes nothing.
use mathlib.Core.Path.{sym, ◌∙◌}
use Rattle.frame.specs.laws.Checks.{frame_heated}
use Rattle.ring.specs.laws.Entries.{frame_answers}
use Rattle.ring.proofs.from_frame.Goals as goal

pub answer_to-requires : goal.answer_to-requires
answer_to-requires c d e =
    frame_heated _ d (sym c.check_frame.ensures ∙ e)

pub returns : goal.returns
returns c =
    let a = c.args in
    frame_answers a.frame.now a.threshold c.answer_to.result c.check_frame.ensures c.answer_to.ensures
