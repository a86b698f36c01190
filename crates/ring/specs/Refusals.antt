-- The numbers and words of a ring's refusals (request 1). There is no 7 and no 8 among them.
use Rattle.std.specs.Prelude.{ℕ, List, [], ◌∷◌}
use Rattle.std.proofs.Common.{lit<, lit≤}
use Rattle.refusals.specs.Faults as faults
use Rattle.refusals.specs.Told as tell
use Rattle.ring.specs.declared.Refusal.{Refusal}
use Rattle.ring.specs.declared.Refusal.TheVariants.{Faulty, Threshold, Weak, Strong}

abbrev pub number : Refusal → ℕ
number (Faulty f) = faults.number f
number Threshold = 9
number Weak = 10
number Strong = 11

-- threshold, weak, strong
abbrev pub word : Refusal → List ℕ
word (Faulty f) = faults.word f
word Threshold = 116 ∷ 104 ∷ 114 ∷ 101 ∷ 115 ∷ 104 ∷ 111 ∷ 108 ∷ 100 ∷ []
word Weak = 119 ∷ 101 ∷ 97 ∷ 107 ∷ []
word Strong = 115 ∷ 116 ∷ 114 ∷ 111 ∷ 110 ∷ 103 ∷ []

pub told : tell.Tells number word
told = (
  elim [ Faulty f ↦ faults.fault_told.0 f | Threshold ↦ lit< tt | Weak ↦ lit< tt | Strong ↦ lit< tt ],
  elim [ Faulty f ↦ faults.fault_told.1 f | Threshold ↦ lit≤ tt | Weak ↦ lit≤ tt | Strong ↦ lit≤ tt ],
)
