-- `enclosure::logarithm::odd_series` meets its contract. Assumes nothing.
use Rattle.enclosure.proofs.OddSeries.{At}
use Rattle.enclosure.proofs.logarithm.odd_series.Given as goal

abbrev pub invariant-loop-j : goal.invariant-loop-j
invariant-loop-j l = At l.a l.b l.w l.v l.h l.j
