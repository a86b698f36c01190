-- The plain list with holes that 64 places stand for (request 7), each case with its upper ΔP (request 8).
use Rattle.std.specs.Prelude.{List, Option}
use Rattle.places.specs.declared.Held.{Held}
use Rattle.places.specs.declared.Places.{Places}
use Rattle.places.specs.Holes.{trim}

unfoldable pub stands_for : Places → List (Option Held)
stands_for s = trim s.all
