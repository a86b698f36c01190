-- Withdrawing, closing and reading, from what the places promise. Assumes nothing.
use Rattle.std.specs.Prelude.{ℕ, ◌≡◌, refl, length, None, Some, Result, Ok, Err}
use Rattle.std.proofs.Common.{sym, ap, ◌∙◌}
use Rattle.std.proofs.Math.Option.{none-ne-some}
use Rattle.places.specs.declared.Held.{Held}
use Rattle.places.specs.Holes.{at, withdrawn, closed}
use Rattle.places.specs.Places.{stands_for}
use Rattle.totals.specs.Totals.{totals_of}
use Rattle.totals.specs.Keeping.{after_withdrawing}
use Rattle.totals.specs.laws.Changes.{right_withdrawn}
use Rattle.sheet.specs.declared.Sheet.{Sheet}
use Rattle.sheet.specs.declared.Vacancy.{Vacancy}
use Rattle.guidance.specs.declared.Case.{Case}
use Rattle.sheet.specs.Operations.{withdraw, close, case_at, finding, counting, found, act, list_of, Does}

pub withdraw_none : (s : Sheet) (k : ℕ) → None ≡ at (stands_for s.places) k → Does s (withdraw k) s (finding (Err (record {})))
unfolding act found list_of
withdraw_none s k e = record { gives = rw (sym e) (record { list = refl; answer = refl; same = λ n z. refl; totals = λ r. r }); ends = λ z. tt }

pub withdraw_case : (s t : Sheet) (k : ℕ) (h : Held) → Some h ≡ at (stands_for s.places) k
    → (list_of t ≡ withdrawn (list_of s) k) × (t.totals ≡ after_withdrawing s.totals t.places k)
    → Does s (withdraw k) t (finding (Ok h.case))
unfolding act found list_of
withdraw_case s t k h e done =
    record {
      gives =
          rw (sym e)
          (record {
            list = done.0;
            answer = refl;
            same = λ n z. absurd (none-ne-some n z);
            totals = λ right. done.1 ∙ right_withdrawn s.totals t.places (stands_for s.places) right k h (sym e) done.0;
          });
      ends = λ z. tt;
    }

pub closes : (s t : Sheet) (n : ℕ) → stands_for t.places ≡ closed (stands_for s.places) → n ≡ length (stands_for t.places)
    → t.totals ≡ totals_of (stands_for t.places)
    → Does s close t (counting n)
unfolding act list_of
closes s t n e f r =
    record {
      gives = record { list = e; answer = ap counting (f ∙ ap length e); same = λ n z. absurd (none-ne-some n z); totals = λ right. r };
      ends = λ z. tt;
    }

-- reading is an operation that leaves the sheet
pub reads : (s : Sheet) (k : ℕ) (r : Result Case Vacancy) → r ≡ found (list_of s) k → Does s (case_at k) s (finding r)
unfolding act
reads s k r e = record { gives = record { list = refl; answer = ap finding e; same = λ n z. refl; totals = λ h. h }; ends = λ z. tt }
