-- `receptor::farthest` meets its contract: bisection between a distance that is accepted and one from which on none is. Assumes nothing.
use Prim.Native.Nat.{◌-◌, ◌≤◌}
use Rattle.bisection.specs.Bisection.{Between}
use Rattle.receptor.specs.laws.Reach.{Within, Beyond}
use Rattle.receptor.proofs.farthest.Given as goal

abbrev pub invariant-loop-high : goal.invariant-loop-high
invariant-loop-high l = Between (Within l.here.air l.here.case) (Beyond l.here.air l.here.case 1000000) l.low l.high × (1 ≤ l.low) × (l.high ≤ 1000001)

abbrev pub decreases-loop-high : goal.decreases-loop-high
decreases-loop-high l = l.high - l.low
