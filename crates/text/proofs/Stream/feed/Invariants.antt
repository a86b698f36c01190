-- `text::Stream::feed` meets its contract: each turn takes one step more. Assumes nothing.
use Prim.Native.Nat.{◌-◌}
use lib.ListN.{length}
use Rattle.text.specs.Promises.{Taken}
use Rattle.text.proofs.Stream.feed.Given as goal

abbrev pub invariant-loop-fed : goal.invariant-loop-fed
invariant-loop-fed l = Taken l.initial.self l.part l.initial.out l.self l.fed l.out

abbrev pub decreases-loop-fed : goal.decreases-loop-fed
decreases-loop-fed l = length l.part - l.fed.used
