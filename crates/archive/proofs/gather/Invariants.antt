-- `archive::gather` meets its contract: the frames of the places passed. Assumes nothing.
use Rattle.archive.proofs.Gathering.{Gathering}
use Rattle.archive.proofs.gather.Given as goal

abbrev pub invariant-loop-place : goal.invariant-loop-place
invariant-loop-place l = Gathering l.places l.initial.frames l.frames l.n l.place-index
