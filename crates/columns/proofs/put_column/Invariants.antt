-- `columns::put_column` meets its contract: the bytes of the rows passed are written. Assumes nothing.
use Rattle.columns.proofs.Filling.{Column}
use lib.ListN.{length}
use Rattle.columns.proofs.put_column.Given as goal

abbrev pub invariant-loop-row : goal.invariant-loop-row
invariant-loop-row l = Column l.from l.start l.width (length l.initial.to) l.to l.row
