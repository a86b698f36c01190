-- `columns::transpose` meets its contract: the columns passed are written. Assumes nothing.
use Rattle.columns.proofs.Filling.{columns_first, columns_part, columns_again, columns_last}
use Rattle.columns.proofs.transpose.Goals as goal

pub loop-j-init : goal.loop-j-init
loop-j-init c =
    columns_first _ _ _ _ c.requires.0 c.requires.1

pub loop-j-preserved : goal.loop-j-preserved
loop-j-preserved c =
    let turn = c.loop-j.invariant in
    let inside = c.loop-j-test.true in
    columns_again turn inside _ (rw (columns_part turn inside) at c.put_column.ensures)

pub returns : goal.returns
returns c =
    columns_last c.loop-j.invariant c.loop-j-test.false
