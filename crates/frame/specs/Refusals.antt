-- The numbers and words of an answer's refusals, and the number of a verdict (document 01, "Refused cases").
use Rattle.std.specs.Prelude.{ℕ, List, [], ◌∷◌}
use Rattle.std.proofs.Common.{lit<, lit≤}
use Rattle.refusals.specs.Faults as faults
use Rattle.refusals.specs.Told as tell
use Rattle.frame.specs.declared.Refusal.{Refusal}
use Rattle.frame.specs.declared.Refusal.TheVariants.{Faulty, Beyond, Space}
use Rattle.frame.specs.Verdict.{Verdict}

abbrev pub number : Refusal → ℕ
number (Faulty f) = faults.number f
number Beyond = 7
number Space = 8

-- 0 for an accepted case, else the number of its refusal
abbrev pub code : Verdict → ℕ
code = tell.code number

-- beyond, space
abbrev pub word : Refusal → List ℕ
word (Faulty f) = faults.word f
word Beyond = 98 ∷ 101 ∷ 121 ∷ 111 ∷ 110 ∷ 100 ∷ []
word Space = 115 ∷ 112 ∷ 97 ∷ 99 ∷ 101 ∷ []

pub told : tell.Tells number word
told = (
  elim [ Faulty f ↦ faults.fault_told.0 f | Beyond ↦ lit< tt | Space ↦ lit< tt ],
  elim [ Faulty f ↦ faults.fault_told.1 f | Beyond ↦ lit≤ tt | Space ↦ lit≤ tt ],
)
