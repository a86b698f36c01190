-- The numbers and words of what the way back to the old form refuses, and the number of a verdict (requests 3 and 11).
use Rattle.std.specs.Prelude.{ℕ, List, [], ◌∷◌}
use Rattle.std.proofs.Common.{lit<, lit≤}
use Rattle.refusals.specs.Faults as faults
use Rattle.refusals.specs.Told as tell
use Rattle.to_old.specs.declared.Refusal.{Refusal}
use Rattle.to_old.specs.declared.Refusal.TheVariants.{Faulty, Air, Space}
use Rattle.to_old.specs.Verdict.{Verdict}

abbrev pub number : Refusal → ℕ
number (Faulty f) = faults.number f
number Air = 19
number Space = 8

-- 0 for an accepted frame, else the number of its refusal
abbrev pub code : Verdict → ℕ
code = tell.code number

-- air, space
abbrev pub word : Refusal → List ℕ
word (Faulty f) = faults.word f
word Air = 97 ∷ 105 ∷ 114 ∷ []
word Space = 115 ∷ 112 ∷ 97 ∷ 99 ∷ 101 ∷ []

pub told : tell.Tells number word
told = (
  elim [ Faulty f ↦ faults.fault_told.0 f | Air ↦ lit< tt | Space ↦ lit< tt ],
  elim [ Faulty f ↦ faults.fault_told.1 f | Air ↦ lit≤ tt | Space ↦ lit≤ tt ],
)
