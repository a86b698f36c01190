-- `ring::edge` meets its contract: bisection between a distance where the end reaches the threshold and one where it does not. Assumes nothing.
use Prim.Native.Nat.{◌-◌, ◌≤◌}
use Rattle.bisection.specs.Bisection.{Between}
use Rattle.ring.specs.Searching.{Reaches, Below}
use Rattle.ring.proofs.edge.Given as goal

abbrev pub invariant-loop-high : goal.invariant-loop-high
invariant-loop-high l = Between (Reaches l.side l.here.air l.here.case l.threshold) (Below l.side l.here.air l.here.case l.threshold) l.low l.high × (l.near ≤ l.low) × (l.high ≤ l.far)

abbrev pub decreases-loop-high : goal.decreases-loop-high
decreases-loop-high l = l.high - l.low
