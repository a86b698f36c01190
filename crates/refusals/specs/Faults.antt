-- The numbers and words of a case's faults, in the order of the tests (document 01, "Refused cases"; request 2: 12 to 14 in the place of 4, which is retired).
use Rattle.std.specs.Prelude.{ℕ, List, [], ◌∷◌}
use Rattle.std.proofs.Common.{lit<, lit≤}
use Rattle.refusals.specs.Told.{Tells}
use Rattle.refusals.specs.declared.Fault.{Fault}
use Rattle.refusals.specs.declared.Fault.TheVariants.{Length, Digit, Substance, State, Placement, Surroundings, Quantity, Heat}

abbrev pub number : Fault → ℕ
number Length = 1
number Digit = 2
number Substance = 3
number State = 12
number Placement = 13
number Surroundings = 14
number Quantity = 5
number Heat = 6

-- each word as its bytes: length, digit, substance, state, placement, surroundings, quantity, heat
abbrev pub word : Fault → List ℕ
word Length = 108 ∷ 101 ∷ 110 ∷ 103 ∷ 116 ∷ 104 ∷ []
word Digit = 100 ∷ 105 ∷ 103 ∷ 105 ∷ 116 ∷ []
word Substance = 115 ∷ 117 ∷ 98 ∷ 115 ∷ 116 ∷ 97 ∷ 110 ∷ 99 ∷ 101 ∷ []
word State = 115 ∷ 116 ∷ 97 ∷ 116 ∷ 101 ∷ []
word Placement = 112 ∷ 108 ∷ 97 ∷ 99 ∷ 101 ∷ 109 ∷ 101 ∷ 110 ∷ 116 ∷ []
word Surroundings = 115 ∷ 117 ∷ 114 ∷ 114 ∷ 111 ∷ 117 ∷ 110 ∷ 100 ∷ 105 ∷ 110 ∷ 103 ∷ 115 ∷ []
word Quantity = 113 ∷ 117 ∷ 97 ∷ 110 ∷ 116 ∷ 105 ∷ 116 ∷ 121 ∷ []
word Heat = 104 ∷ 101 ∷ 97 ∷ 116 ∷ []

pub fault_told : Tells number word
fault_told = (
  elim [
    | Length ↦ lit< tt
    | Digit ↦ lit< tt
    | Substance ↦ lit< tt
    | State ↦ lit< tt
    | Placement ↦ lit< tt
    | Surroundings ↦ lit< tt
    | Quantity ↦ lit< tt
    | Heat ↦ lit< tt
  ],
  elim [
    | Length ↦ lit≤ tt
    | Digit ↦ lit≤ tt
    | Substance ↦ lit≤ tt
    | State ↦ lit≤ tt
    | Placement ↦ lit≤ tt
    | Surroundings ↦ lit≤ tt
    | Quantity ↦ lit≤ tt
    | Heat ↦ lit≤ tt
  ],
)
