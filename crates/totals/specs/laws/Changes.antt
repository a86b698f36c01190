-- How the totals change as cases come and go. Assumes nothing.
use Prim.Native.Nat.{ℕ, zero, suc, ◌+◌, ◌-◌, ◌≤◌, ◌<◌}
use Rattle.std.specs.Prelude.{◌≡◌, refl, List, [], ◌∷◌, ◌++◌, length, get_or, set, eqb, ltb, Option, None, Some}
use Rattle.std.proofs.lemmas.Option.{none-some}
use Rattle.std.proofs.Math.Path.{sym}
use Rattle.std.proofs.Common.{ap, ap₂, ◌∙◌, arith}
use borrow.Author.Tests.{eqb-true, eqb-false, eq-eqb, ne_eqb, ltb-true, ltb-false}
use Rattle.exact.proofs.laws.Tests.{settle}
use Rattle.places.specs.declared.Held.{Held}
use Rattle.places.specs.declared.Places.{Places}
use Rattle.places.specs.Holes.{at, added, withdrawn}
use Rattle.places.specs.Places.{stands_for}
use Rattle.totals.specs.declared.Totals.{Totals}
use Rattle.totals.specs.Totals.{count, greatest, first_with, totals_of}
use Rattle.totals.specs.Keeping.{including, excluding, after_adding, after_withdrawing}
use Rattle.totals.specs.laws.Counts.{count_case, count_set, greatest_case, greatest_none, greatest_set}
use Rattle.totals.specs.laws.Trims.{totals_trim}
use Rattle.totals.specs.laws.Firsts.{first_bound, first_nowhere, first_none, first_above, first_found, first_next, first_set}

module _ (xs : List (Option Held)) (h : Held) where
  -- the new case is the greatest, and the first of its end
  overtakes
      : first_with h.upper 0 xs ≡ 0 →
      greatest xs ≤ h.upper →
      totals_of (xs ++ (Some h ∷ [])) ≡ record { cases = count xs + 1; greatest = h.upper; place = length xs + 1 }
  unfolding totals_of
  overtakes none_yet l =
      let most : greatest (xs ++ (Some h ∷ [])) ≡ h.upper = omega (arith, greatest_case xs h) in
      rw (count_case xs h, most, first_next 0 xs h none_yet)
      (ap₂ (λ (n k : ℕ). record { cases = n; greatest = h.upper; place = k }) (omega arith) (omega arith))

  -- an earlier one stays the first of the greatest
  stays
      : 0 < count xs →
      h.upper ≤ greatest xs →
      totals_of (xs ++ (Some h ∷ [])) ≡ record { cases = count xs + 1; greatest = greatest xs; place = first_with (greatest xs) 0 xs }
  unfolding totals_of
  stays some_left l =
      let same : greatest (xs ++ (Some h ∷ [])) ≡ greatest xs = omega (arith, greatest_case xs h) in
      rw (count_case xs h, same, kept (first_with (greatest xs) 0 xs) refl)
      (ap (λ (n : ℕ). record { cases = n; greatest = greatest xs; place = first_with (greatest xs) 0 xs }) (omega arith))
    where
      kept : (s : ℕ) → first_with (greatest xs) 0 xs ≡ s → first_with (greatest xs) 0 (xs ++ (Some h ∷ [])) ≡ first_with (greatest xs) 0 xs
      kept zero e = absurd (first_nowhere (greatest xs) 0 xs e some_left refl)
      kept (suc j) e = first_found (greatest xs) 0 xs h j e ∙ sym e

  -- a case more at the end
  pub totals_added : totals_of (added xs h) ≡ including (totals_of xs) (length xs + 1) h.upper
  unfolding including totals_of added
  totals_added =
      settle (eqb (count xs) 0)
      (λ e.
      let empty : count xs ≡ 0 = eqb-true (count xs) 0 e in
      rw e (overtakes (first_none h.upper 0 xs empty) (omega (arith, greatest_none xs empty))))
      (λ e.
      let more : count xs ≡ 0 → ⊥ = eqb-false (count xs) 0 e in
      settle (ltb (greatest xs) h.upper)
      (λ t.
      let less : greatest xs < h.upper = ltb-true (greatest xs) h.upper t in
      rw (e, t) (overtakes (first_above h.upper 0 xs less) (omega arith)))
      (λ t. rw (e, t) (stays (omega (arith, more)) (ltb-false (greatest xs) h.upper t))))

-- a hole in the place of a case that is not the one shown
totals_set
    : (xs : List (Option Held)) (i : ℕ) (h : Held) →
    get_or xs i None ≡ Some h →
    ((totals_of xs).place ≡ suc i → ⊥) →
    totals_of (set xs i None) ≡ excluding (totals_of xs)
unfolding totals_of
totals_set xs i h e other =
    rw (most, same)
    (ap (λ (n : ℕ). record { cases = n; greatest = greatest xs; place = first_with (greatest xs) 0 xs }) (omega (arith, count_set xs i h e)))
  where
    same : first_with (greatest xs) 0 (set xs i None) ≡ first_with (greatest xs) 0 xs
    same = first_set (greatest xs) 0 xs i (λ e. other (e ∙ ap suc (omega arith)))

    reached : (s : ℕ) → first_with (greatest xs) 0 xs ≡ s → greatest xs ≤ greatest (set xs i None)
    reached zero f = absurd (first_nowhere (greatest xs) 0 xs f (omega (arith, count_set xs i h e)) refl)
    reached (suc j) f = first_bound (greatest xs) 0 (set xs i None) j (same ∙ f)

    most : greatest (set xs i None) ≡ greatest xs
    most = omega (arith, greatest_set xs i, reached (first_with (greatest xs) 0 xs) refl)

-- a case withdrawn that is not the one shown
totals_withdrawn
    : (xs : List (Option Held)) (k : ℕ) (h : Held) →
    at xs k ≡ Some h →
    ((totals_of xs).place ≡ k → ⊥) →
    totals_of (withdrawn xs k) ≡ excluding (totals_of xs)
unfolding at withdrawn
totals_withdrawn xs zero h e other = absurd (none-some h e)
totals_withdrawn xs (suc i) h e other = totals_trim (set xs i None) ∙ totals_set xs i h e other

-- a case went: the one shown, another

module _ (t : Totals) (now : Places) (k : ℕ) where
  pub shown_went : t.place ≡ k → totals_of (stands_for now) ≡ after_withdrawing t now k
  unfolding after_withdrawing
  shown_went e = rw (eq-eqb t.place k e)

  pub other_went : (t.place ≡ k → ⊥) → excluding t ≡ after_withdrawing t now k
  unfolding after_withdrawing
  other_went other = rw (ne_eqb t.place k other)

  pub none_there : (t.place ≡ k → ⊥) → t.cases ≡ 0 → t ≡ after_withdrawing t now k
  none_there other e =
      let none_less : t.cases ≡ t.cases - 1 = omega arith in
      ap (λ (n : ℕ). record { cases = n; greatest = t.greatest; place = t.place }) none_less ∙ other_went other

-- right totals stay right

module _ (t : Totals) (now : Places) (xs : List (Option Held)) (right : t ≡ totals_of xs) where
  pub right_added : (k : ℕ) (h : Held) → stands_for now ≡ added xs h → k ≡ length xs + 1 → after_adding t now k h ≡ totals_of (stands_for now)
  unfolding after_adding
  right_added k h list last =
      settle (ltb t.cases 64) (λ e. rw e (rw (right, last, list) (sym (totals_added xs h)))) (λ e. rw e)

  pub right_withdrawn : (k : ℕ) (h : Held) → at xs k ≡ Some h → stands_for now ≡ withdrawn xs k → after_withdrawing t now k ≡ totals_of (stands_for now)
  right_withdrawn k h there list =
      settle (eqb t.place k)
      (λ e. sym (shown_went t now k (eqb-true t.place k e)))
      (λ e.
      let other : t.place ≡ k → ⊥ = eqb-false t.place k e in
      sym (other_went t now k other)
      ∙ rw (right, list) (sym (totals_withdrawn xs k h there (λ i. other (ap (λ (u : Totals). u.place) right ∙ i)))))
