-- `places::Places::close` meets its contract: the cases passed stand in front. Assumes nothing.
use Rattle.places.proofs.Closes.{Closing}
use Rattle.places.proofs.Places.close.Given as goal

abbrev pub invariant-loop-place : goal.invariant-loop-place
invariant-loop-place l = Closing l.place-items l.closed l.n l.place-index
