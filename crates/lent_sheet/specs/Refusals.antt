-- The numbers and words of what is refused of a lent sheet: what a sheet refuses, and 8 of what is lent (request 7).
use Rattle.std.specs.Prelude.{ℕ, List, Result, Ok, Err}
use Rattle.std.proofs.Common.{lit<, lit≤}
use Rattle.refusals.specs.Told as tell
use Rattle.frame.specs.declared.Refusal.TheVariants as answer
use Rattle.frame.specs.Refusals as answers
use Rattle.totals.specs.declared.Totals.{Totals}
use Rattle.sheet.specs.Refusals as sheets
use Rattle.lent_sheet.specs.declared.Refusal.{Refusal}
use Rattle.lent_sheet.specs.declared.Refusal.TheVariants.{Unadded, Vacant, Space}

abbrev pub number : Refusal → ℕ
number (Unadded r) = sheets.number r
number Vacant = sheets.vacancy_number (record {})
number Space = answers.number answer.Space

abbrev pub word : Refusal → List ℕ
word (Unadded r) = sheets.word r
word Vacant = sheets.vacancy_word (record {})
word Space = answers.word answer.Space

pub told : tell.Tells number word
told = (
  elim [ Unadded r ↦ sheets.told.0 r | Vacant ↦ lit< tt | Space ↦ lit< tt ],
  elim [ Unadded r ↦ sheets.told.1 r | Vacant ↦ lit≤ tt | Space ↦ lit≤ tt ],
)

-- 0, or the number of the refusal
abbrev pub code : {T : Type 0} → Result T Refusal → ℕ
code = tell.code number

-- a number that a caller lends, where the answer tells it; a refusal leaves it as it was
abbrev pub place_after : Result ℕ Refusal → (before : ℕ) → ℕ
place_after (Ok k) before = k
place_after (Err r) before = before

abbrev pub total_after : (Totals → ℕ) → Result Totals Refusal → (before : ℕ) → ℕ
total_after of (Ok t) before = of t
total_after of (Err r) before = before
