-- `columns::restore` meets its contract: the tests in their order, then the frames. Assumes nothing.
use Rattle.columns.proofs.Writing.{restore_empty, restore_damaged, restore_short, restore_written}
use Rattle.columns.proofs.restore.Goals as goal

pub returns-in_default : goal.returns-in_default
returns-in_default c =
    restore_empty _ _ c.in_default.ensures.cases

pub returns-then-n-gt-FRAMES : goal.returns-then-n-gt-FRAMES
returns-then-n-gt-FRAMES c =
    rw (c.in-Some.ensures.cases.0, ← c.from-n.ensures) (restore_damaged _ _ _ c.then-n-gt-FRAMES.either)

pub returns-then-area-size : goal.returns-then-area-size
returns-then-area-size c =
    rw (c.in-Some.ensures.cases.0, ← c.from-n.ensures) (restore_short _ _ _ c.if-n-gt-FRAMES.false c.if-columns-size.false c.if-area-size.true)

pub returns : goal.returns
returns c =
    rw (c.in-Some.ensures.cases.0, ← c.from-n.ensures)
    (restore_written _ _ _ c.if-n-gt-FRAMES.false c.if-columns-size.false _ c.if-area-size.false c.transpose.ensures)
