-- `answer::from_line` meets its contract. Assumes nothing.
use Rattle.answer.proofs.Verdicts.{due_line}
use Rattle.answer.proofs.from_line.Goals as goal

pub enter-requires : goal.enter-requires
enter-requires c =
    let start = c.args in
    due_line start.line.now start.area.now c.decide_line-verdict.ensures
