-- `scan::sums::sum_of` meets its contract: the sum so far is that of the bytes that are passed. Assumes nothing.
use Rattle.std.proofs.Common.{◌≡◌, ◌<◌, take}
use Rattle.scan.specs.Sums.{prime, sum_of}
use Rattle.scan.proofs.sums.sum_of.Given as goal

abbrev pub invariant-loop-b : goal.invariant-loop-b
invariant-loop-b l = (l.sum ≡ sum_of (take l.b-index l.text)) × (l.sum < prime)
