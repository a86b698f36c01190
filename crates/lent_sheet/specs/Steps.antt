-- What the calls promise in Rust: the number of what they answer, and the numbers that a caller lends for it.
use Rattle.std.specs.Prelude.{ℕ, List, Result}
use Rattle.totals.specs.declared.Totals.{Totals}
use Rattle.lent_sheet.specs.declared.Refusal.{Refusal}
use Rattle.lent_sheet.specs.Refusals.{code, place_after, total_after}
use Rattle.lent_sheet.specs.Calls.{Adds, Totalled}

abbrev pub AddsTo : (frame before : List ℕ) → Result ℕ Refusal → (after : List ℕ) → Type 0
AddsTo frame before answer after = (place : ℕ) → Adds frame before place (code answer) after (place_after answer place)

abbrev pub TotalsOf : (s : List ℕ) → Result Totals Refusal → Type 0
TotalsOf s answer =
    (count greatest place : ℕ) →
    Totalled s count greatest place (code answer) (total_after (λ t. t.cases) answer count) (total_after (λ t. t.greatest) answer greatest) (total_after (λ t. t.place) answer place)
