-- The numbers and words of what an entry refuses that writes a case (request 3).
use Rattle.std.specs.Prelude.{ℕ, List, [], ◌∷◌}
use Rattle.std.proofs.Common.{lit<, lit≤}
use Rattle.refusals.specs.Faults as faults
use Rattle.refusals.specs.Told as tell
use Rattle.writable.specs.declared.Refusal.{Refusal}
use Rattle.writable.specs.declared.Refusal.TheVariants.{Faulty, Space}
use Rattle.writable.specs.Verdict.{Verdict}

abbrev pub number : Refusal → ℕ
number (Faulty f) = faults.number f
number Space = 8

-- 0 for an accepted case, else the number of its refusal
abbrev pub code : Verdict → ℕ
code = tell.code number

-- space
abbrev pub word : Refusal → List ℕ
word (Faulty f) = faults.word f
word Space = 115 ∷ 112 ∷ 97 ∷ 99 ∷ 101 ∷ []

pub told : tell.Tells number word
told = (
  elim [ Faulty f ↦ faults.fault_told.0 f | Space ↦ lit< tt ],
  elim [ Faulty f ↦ faults.fault_told.1 f | Space ↦ lit≤ tt ],
)
