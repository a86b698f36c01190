-- The tests of a case that is added to a sheet (request 7).
use Rattle.std.specs.Prelude.{Bool, List, [], ◌∷◌, ◌++◌, length, eqb, Option}
use Rattle.guidance.specs.declared.Case.{Case}
use Rattle.refusals.specs.declared.Fault.{Fault}
use Rattle.refusals.specs.Order.{Test, ◌when◌, held}
use Rattle.frame.specs.Tests.{beyond}
use Rattle.places.specs.declared.Held.{Held}
use Rattle.sheet.specs.declared.Refusal.{Refusal}
use Rattle.sheet.specs.declared.Refusal.TheVariants.{Faulty, Beyond, Full}

-- the last place that holds a case is the 64th
abbrev pub full : List (Option Held) → Bool
full xs = eqb (length xs) 64

-- tests 1 to 7
unfoldable pub own_tests : List (Test Fault) → Case → List (Test Refusal)
own_tests tests c = held Faulty tests ++ (Beyond when beyond c) ∷ []

-- then 17
unfoldable pub add_tests : List (Test Fault) → Case → List (Option Held) → List (Test Refusal)
add_tests tests c xs = own_tests tests c ++ (Full when full xs) ∷ []
