-- `reckon::pass` meets its contract: each turn uses more of the part. Assumes nothing.
use Prim.Native.Nat.{◌-◌}
use lib.ListN.{length}
use Rattle.reckon.specs.Passing.{Past}
use Rattle.reckon.proofs.pass.Given as goal

abbrev pub invariant-loop-used : goal.invariant-loop-used
invariant-loop-used l = Past l.initial.stream l.part l.used l.stream

abbrev pub decreases-loop-used : goal.decreases-loop-used
decreases-loop-used l = length l.part - l.used
