-- `sheet_bytes::pack` meets its contract: the first i places are written. Assumes nothing.
use Rattle.sheet_bytes.proofs.Turns.{Packing}
use Rattle.sheet_bytes.proofs.pack.Given as goal

abbrev pub invariant-loop-i : goal.invariant-loop-i
invariant-loop-i l = Packing l.places l.initial.s l.s l.i
