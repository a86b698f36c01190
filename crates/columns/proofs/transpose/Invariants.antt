-- `columns::transpose` meets its contract: the columns passed are written. Assumes nothing.
use Rattle.columns.proofs.Filling.{Columns}
use Rattle.columns.proofs.transpose.Given as goal

abbrev pub invariant-loop-j : goal.invariant-loop-j
invariant-loop-j l = Columns l.from l.rows l.width l.initial.to l.to l.j
