-- `places::Places::empty` meets its contract: every place is a hole. Assumes nothing.
use mathlib.Core.Path.{refl}
use Rattle.places.specs.Holes.{trim, ahead}
use Rattle.places.specs.Places.{stands_for}
use Rattle.places.proofs.Places.empty.Goals as goal

pub returns : goal.returns
unfolding stands_for trim ahead
returns c =
    refl
