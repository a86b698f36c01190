-- Laws of a list without its holes. Assumes nothing.
use Rattle.std.specs.Prelude.{ℕ, suc, ◌≤◌, ◌<◌, ◌≡◌, length, get_or, take, Option, None, Some}
use Rattle.std.proofs.Math.Path.{refl, ap}
use Rattle.std.proofs.Common.{◌∙◌, take-suc}
use mathlib.Core.List.{List, [], ◌∷◌, ◌++◌, append-nil}
use native.Mathlib.Omega.{arith}
use Rattle.places.specs.Holes.{ahead, trim, closed}
use Rattle.places.specs.laws.Trims.{ahead_same}

module _ {A : Type 0} where
  closed_cons : (x : Option A) (s t : List (Option A)) → closed s ≡ closed t → closed (x ∷ s) ≡ closed (x ∷ t)
  unfolding closed
  closed_cons None s t e = e
  closed_cons (Some a) s t e = ap (λ (u : List (Option A)). Some a ∷ u) e

  -- the holes at the end are holes
  pub closed_trim : (xs : List (Option A)) → closed (trim xs) ≡ closed xs
  unfolding trim closed
  closed_trim [] = refl
  closed_trim (x ∷ xs) = ahead_same closed refl x (trim xs) ∙ closed_cons x (trim xs) xs (closed_trim xs)

  closed_append : (s t : List (Option A)) → closed (s ++ t) ≡ closed s ++ closed t
  unfolding closed
  closed_append [] t = refl
  closed_append (None ∷ s) t = closed_append s t
  closed_append (Some a ∷ s) t = ap (λ (u : List (Option A)). Some a ∷ u) (closed_append s t)

  pub closed_length : (xs : List (Option A)) → length (closed xs) ≤ length xs
  unfolding closed
  closed_length [] = omega arith
  closed_length (None ∷ xs) = omega (arith, closed_length xs)
  closed_length (Some a ∷ xs) = omega (arith, closed_length xs)

  -- one place more
  pub closed_hole
      : (xs : List (Option A)) (i : ℕ) → i < length xs → get_or xs i None ≡ None → closed (take (suc i) xs) ≡ closed (take i xs)
  unfolding closed
  closed_hole xs i l e = rw (take-suc xs i None l, e) (closed_append (take i xs) (None ∷ []) ∙ append-nil (closed (take i xs)))

  pub closed_case
      : (xs : List (Option A)) (i : ℕ) (a : A) →
      i < length xs →
      get_or xs i None ≡ Some a →
      closed (take (suc i) xs) ≡ closed (take i xs) ++ (Some a ∷ [])
  unfolding closed
  closed_case xs i a l e = rw (take-suc xs i None l, e) (closed_append (take i xs) (Some a ∷ []))

  pub trim_closed : (xs : List (Option A)) → trim (closed xs) ≡ closed xs
  unfolding trim closed ahead
  trim_closed [] = refl
  trim_closed (None ∷ xs) = trim_closed xs
  trim_closed (Some a ∷ xs) = ap (λ (u : List (Option A)). Some a ∷ u) (trim_closed xs)
