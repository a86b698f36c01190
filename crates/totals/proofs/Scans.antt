-- One turn of working the totals from the places. Assumes nothing.
use Rattle.std.specs.Prelude.{Option, None, Some}
use Prim.Native.Nat.{ℕ, suc, ◌+◌, ◌≤◌, ◌<◌}
use mathlib.Core.Path.{◌≡◌, sym, ap, ◌∙◌}
use mathlib.Core.List.{List, [], ◌∷◌, ◌++◌}
use native.Mathlib.Numerals.{add-one}
use native.Mathlib.Omega.{arith}
use lib.ListN.{length, get_or, take}
use lib.Seq.{take_all, take-suc, length-take-le}
use Rattle.places.specs.declared.Held.{Held}
use Rattle.places.specs.declared.Places.{Places}
use Rattle.places.specs.Holes.{added}
use Rattle.places.specs.Places.{stands_for}
use Rattle.places.specs.laws.Trims.{trim_take_hole}
use Rattle.totals.specs.declared.Totals.{Totals}
use Rattle.totals.specs.Totals.{totals_of}
use Rattle.totals.specs.Keeping.{including, including_any}
use Rattle.totals.specs.laws.Counts.{count_length}
use Rattle.totals.specs.laws.Trims.{totals_trim}
use Rattle.totals.specs.laws.Changes.{totals_added}

-- t has the totals of the first i places
pub record Scanned (now : Places) (t : Totals) (i : ℕ) : Type 0 where
  pub passed : i ≤ 64
  pub totals : t ≡ totals_of (take i now.all)

pub scan_first : (now : Places) (t : Totals) → t ≡ totals_of [] → Scanned now t 0
scan_first now t e = record { passed = omega arith; totals = e }

module _ {now : Places} {t : Totals} {i : ℕ} (q : Scanned now t i) (l : i < 64) where
  abbrev xs : List (Option Held)
  xs = take i now.all

  size_so_far : length xs ≡ i
  size_so_far = length-take-le i now.all (omega (arith, now.whole))

  pub scan_cases : t.cases < 64
  unfolding totals_of
  scan_cases = omega (arith, ap (λ (u : Totals). u.cases) q.totals, count_length xs, size_so_far)

  -- a place more, whatever it holds
  one_more : (x : Option Held) → get_or now.all i None ≡ x → totals_of (take (i + 1) now.all) ≡ including_any (totals_of xs) (i + 1) x
  unfolding added
  one_more None e =
      rw (add-one i) (sym (totals_trim (take (suc i) now.all)) ∙ ap totals_of (trim_take_hole now.all i e) ∙ totals_trim xs)
  one_more (Some h) e =
      let longer : take (i + 1) now.all ≡ xs ++ (Some h ∷ [])
      = rw (add-one i, ← e) (take-suc now.all i None (omega arith)) in
      ap totals_of longer ∙ totals_added xs h ∙ ap (λ (n : ℕ). including (totals_of xs) (n + 1) h.upper) size_so_far

  pub scan_again : (x : Option Held) (r : Totals) → get_or now.all i None ≡ x → r ≡ including_any t (i + 1) x → Scanned now r (i + 1)
  scan_again x r e f = record { passed = omega arith; totals = f ∙ rw q.totals (sym (one_more x e)) }

pub scan_last : {now : Places} {t : Totals} {i : ℕ} → Scanned now t i → 64 ≤ i → t ≡ totals_of (stands_for now)
unfolding stands_for
scan_last {now} {t} {i} q l =
    q.totals ∙ ap totals_of (take_all i now.all (omega (arith, now.whole))) ∙ sym (totals_trim now.all)
