-- `totals::afresh` meets its contract: the totals of the places passed. Assumes nothing.
use Rattle.totals.proofs.Scans.{Scanned}
use Rattle.totals.proofs.afresh.Given as goal

abbrev pub invariant-loop-i : goal.invariant-loop-i
invariant-loop-i l = Scanned l.now l.totals l.i
