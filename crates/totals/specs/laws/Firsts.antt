-- Laws of the first place that has an upper end. Assumes nothing.
use Rattle.std.specs.Prelude.{ℕ, zero, suc, ◌+◌, ◌≤◌, ◌<◌, ◌≡◌, refl, List, [], ◌∷◌, ◌++◌, length, set, eqb, Option, None, Some}
use Rattle.std.proofs.Common.{ap, ◌∙◌, arith, eqb-true, eq-eqb}
use Rattle.std.proofs.lemmas.Bool.{eqb-false}
use Rattle.exact.proofs.laws.Tests.{settle}
use Rattle.places.specs.declared.Held.{Held}
use Rattle.totals.specs.Totals.{count, greatest, first_with}
use Rattle.totals.specs.laws.Counts.{greatest_none}

-- an end that is found is no greater than the greatest
pub first_bound : (u k : ℕ) (xs : List (Option Held)) (j : ℕ) → first_with u k xs ≡ suc j → u ≤ greatest xs
unfolding first_with greatest
first_bound u k [] j e = absurd (omega arith)
first_bound u k (None ∷ xs) j e = first_bound u (suc k) xs j e
first_bound u k (Some h ∷ xs) j e =
    settle (eqb h.upper u)
    (λ t. omega (arith, eqb-true h.upper u t))
    (λ t. omega (arith, first_bound u (suc k) xs j (rw t at e)))

-- an end that is not found is not the greatest of any cases
pub first_nowhere : (u k : ℕ) (xs : List (Option Held)) → first_with u k xs ≡ 0 → 0 < count xs → greatest xs ≡ u → ⊥
unfolding first_with greatest count
first_nowhere u k [] e l g = omega arith
first_nowhere u k (None ∷ xs) e l g = first_nowhere u (suc k) xs e l g
first_nowhere u k (Some h ∷ xs) e l g =
    settle (eqb h.upper u)
    (λ t. let f : suc k ≡ 0 = rw t at e in omega arith)
    (λ t.
    let other : h.upper ≡ u → ⊥ = eqb-false h.upper u t in
    settle (eqb (count xs) 0)
    (λ s. other (omega (arith, greatest_none xs (eqb-true (count xs) 0 s))))
    (λ s.
    let some_left : count xs ≡ 0 → ⊥ = eqb-false (count xs) 0 s in
    settle (eqb (greatest xs) u)
    (λ w. first_nowhere u (suc k) xs (rw t at e) (omega (arith, some_left)) (eqb-true (greatest xs) u w))
    (λ w. let lesser : greatest xs ≡ u → ⊥ = eqb-false (greatest xs) u w in omega (arith, other, lesser))))

-- no case, no place
pub first_none : (u k : ℕ) (xs : List (Option Held)) → count xs ≡ 0 → first_with u k xs ≡ 0
unfolding first_with count
first_none u k [] e = refl
first_none u k (None ∷ xs) e = first_none u (suc k) xs e
first_none u k (Some h ∷ xs) e = absurd (omega arith)

-- above all, no place
pub first_above : (u k : ℕ) (xs : List (Option Held)) → greatest xs < u → first_with u k xs ≡ 0
first_above u k xs l = by (first_with u k xs) refl
  where
    by : (s : ℕ) → first_with u k xs ≡ s → first_with u k xs ≡ 0
    by zero e = e
    by (suc j) e = absurd (omega (arith, first_bound u k xs j e))

-- a place that is found stays the first
pub first_found
    : (u k : ℕ) (xs : List (Option Held)) (h : Held) (j : ℕ) → first_with u k xs ≡ suc j → first_with u k (xs ++ (Some h ∷ [])) ≡ suc j
unfolding first_with
first_found u k [] h j e = absurd (omega arith)
first_found u k (None ∷ xs) h j e = first_found u (suc k) xs h j e
first_found u k (Some g ∷ xs) h j e =
    settle (eqb g.upper u)
    (λ t. rw t (rw t at e))
    (λ t. rw t (first_found u (suc k) xs h j (rw t at e)))

-- where none is found, the next case may be the first
pub first_next
    : (k : ℕ) (xs : List (Option Held)) (h : Held) →
    first_with h.upper k xs ≡ 0 →
    first_with h.upper k (xs ++ (Some h ∷ [])) ≡ suc (k + length xs)
unfolding first_with
first_next k [] h e = rw (eq-eqb h.upper h.upper refl) (ap suc (omega arith))
first_next k (None ∷ xs) h e = first_next (suc k) xs h e ∙ ap suc (omega arith)
first_next k (Some g ∷ xs) h e =
    settle (eqb g.upper h.upper)
    (λ t. let f : suc k ≡ 0 = rw t at e in absurd (omega arith))
    (λ t. rw t (first_next (suc k) xs h (rw t at e) ∙ ap suc (omega arith)))

-- a hole elsewhere changes no first place
pub first_set
    : (u k : ℕ) (xs : List (Option Held)) (i : ℕ) → (first_with u k xs ≡ suc (k + i) → ⊥) → first_with u k (set xs i None) ≡ first_with u k xs
unfolding first_with
first_set u k [] i e = refl
first_set u k (None ∷ xs) zero e = refl
first_set u k (Some h ∷ xs) zero e =
    settle (eqb h.upper u)
    (λ t. absurd (e (rw t (ap suc (omega arith)))))
    (λ t. rw t)
first_set u k (None ∷ xs) (suc i) e = first_set u (suc k) xs i (λ f. e (f ∙ ap suc (omega arith)))
first_set u k (Some h ∷ xs) (suc i) e =
    settle (eqb h.upper u)
    (λ t. rw t)
    (λ t. rw t (first_set u (suc k) xs i (λ f. e (rw t (f ∙ ap suc (omega arith))))))
