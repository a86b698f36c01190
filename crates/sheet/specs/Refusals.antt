-- The numbers and words of a study sheet's refusals (request 7). Of adding there is no 8, and no 18; of a place there is 18 alone.
use Rattle.std.specs.Prelude.{ℕ, List, [], ◌∷◌}
use Rattle.std.proofs.Common.{lit<, lit≤}
use Rattle.refusals.specs.Faults as faults
use Rattle.refusals.specs.Told as tell
use Rattle.sheet.specs.declared.Refusal.{Refusal}
use Rattle.sheet.specs.declared.Refusal.TheVariants.{Faulty, Beyond, Full}
use Rattle.sheet.specs.declared.Vacancy.{Vacancy}

abbrev pub number : Refusal → ℕ
number (Faulty f) = faults.number f
number Beyond = 7
number Full = 17

-- beyond, full
abbrev pub word : Refusal → List ℕ
word (Faulty f) = faults.word f
word Beyond = 98 ∷ 101 ∷ 121 ∷ 111 ∷ 110 ∷ 100 ∷ []
word Full = 102 ∷ 117 ∷ 108 ∷ 108 ∷ []

pub told : tell.Tells number word
told = (
  elim [ Faulty f ↦ faults.fault_told.0 f | Beyond ↦ lit< tt | Full ↦ lit< tt ],
  elim [ Faulty f ↦ faults.fault_told.1 f | Beyond ↦ lit≤ tt | Full ↦ lit≤ tt ],
)

abbrev pub vacancy_number : Vacancy → ℕ
vacancy_number v = 18

-- vacant
abbrev pub vacancy_word : Vacancy → List ℕ
vacancy_word v = 118 ∷ 97 ∷ 99 ∷ 97 ∷ 110 ∷ 116 ∷ []

pub vacancy_told : tell.Tells vacancy_number vacancy_word
vacancy_told = (λ v. lit< tt, λ v. lit≤ tt)
