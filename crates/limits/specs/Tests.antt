-- Tests 3 to 6, with 12 to 14 in the place of 4: the values of each field, and a heat (document 01, "The case frame", "Refused cases"; requests 2 and 11).
use Rattle.std.specs.Prelude.{ℕ, Bool, not, ◌&&◌, ◌||◌, List, [], ◌∷◌, ◌++◌, eqb}
use Rattle.hexadecimals.specs.Digits.{within}
use Rattle.guidance.specs.declared.Case.{Case}
use Rattle.guidance.specs.Substances.{beta_of}
use Rattle.refusals.specs.declared.Fault.{Fault}
use Rattle.refusals.specs.declared.Fault.TheVariants.{Substance, State, Placement, Surroundings, Quantity, Heat}
use Rattle.refusals.specs.Order.{Test, ◌when◌}

-- x is none of the values least to most
abbrev pub outside : (least most x : ℕ) → Bool
outside least most x = not (within least most x)

unfoldable pub quantity_outside : Case → Bool
quantity_outside c =
    outside 1 1000000000 c.mass
    || outside 1 50000 c.mean
    || outside 1 50000 c.stoichiometric
    || outside 0 150000 c.heat
    || outside 1 1000000 c.distance
    || outside 1 500 c.body
    || outside 5000 11000 c.air

-- heat 0, and the substance has no β
unfoldable pub heat_missing : Case → Bool
heat_missing c = eqb c.heat 0 && eqb (beta_of c.substance) 0

-- tests 3 to 5, the three settings in the order of the frame
unfoldable pub value_tests : Case → List (Test Fault)
value_tests c =
    (Substance when outside 0 75 c.substance)
    ∷ (State when outside 0 1 c.state)
    ∷ (Placement when outside 0 1 c.placement)
    ∷ (Surroundings when outside 1 4 c.surroundings)
    ∷ (Quantity when quantity_outside c)
    ∷ []

-- 5 once more, for a heat that was given and lost, as only the old form has it (request 3), and 6
abbrev pub heat_tests : (lost : Bool) → Case → List (Test Fault)
heat_tests lost c = (Quantity when lost) ∷ (Heat when heat_missing c) ∷ []

-- tests 3 to 6
unfoldable pub field_tests : Case → List (Test Fault)
field_tests c = value_tests c ++ (Heat when heat_missing c) ∷ []
