-- `answer::from_frame` meets its contract. Assumes nothing.
use Rattle.answer.proofs.Verdicts.{due_frame}
use Rattle.answer.proofs.from_frame.Goals as goal

pub enter-requires : goal.enter-requires
enter-requires c =
    let start = c.args in
    due_frame start.frame.now start.area.now c.decide_frame-verdict.ensures
