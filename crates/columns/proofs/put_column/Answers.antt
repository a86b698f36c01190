-- `columns::put_column` meets its contract: the bytes of the rows passed are written. Assumes nothing.
use Rattle.columns.proofs.Filling.{column_first, column_again}
use Rattle.columns.proofs.put_column.Goals as goal

pub loop-row-init : goal.loop-row-init
loop-row-init c =
    column_first _ _ _ _ c.requires.0 c.requires.1

pub loop-row-preserved : goal.loop-row-preserved
loop-row-preserved c =
    column_again c.loop-row.invariant c.loop-row-test.true
