-- Laws of the number of cases and of the greatest upper end. Assumes nothing.
use Rattle.std.specs.Prelude.{ℕ, zero, suc, max, ◌≤◌, ◌≡◌, refl, List, [], ◌∷◌, ◌++◌, length, get_or, set, Option, None, Some}
use Rattle.std.proofs.lemmas.Option.{none-some}
use Rattle.std.proofs.Common.{ap, arith}
use Rattle.places.specs.declared.Held.{Held}
use Rattle.totals.specs.Totals.{count, greatest}

pub count_length : (xs : List (Option Held)) → count xs ≤ length xs
unfolding count
count_length [] = omega arith
count_length (None ∷ xs) = omega (arith, count_length xs)
count_length (Some h ∷ xs) = omega (arith, count_length xs)

pub count_case : (xs : List (Option Held)) (h : Held) → count (xs ++ (Some h ∷ [])) ≡ suc (count xs)
unfolding count
count_case [] h = refl
count_case (None ∷ xs) h = count_case xs h
count_case (Some g ∷ xs) h = ap suc (count_case xs h)

pub count_set : (xs : List (Option Held)) (i : ℕ) (h : Held) → get_or xs i None ≡ Some h → count xs ≡ suc (count (set xs i None))
unfolding count
count_set [] i h e = absurd (none-some h e)
count_set (None ∷ xs) zero h e = absurd (none-some h e)
count_set (Some g ∷ xs) zero h e = refl
count_set (None ∷ xs) (suc i) h e = count_set xs i h e
count_set (Some g ∷ xs) (suc i) h e = ap suc (count_set xs i h e)

pub greatest_case : (xs : List (Option Held)) (h : Held) → greatest (xs ++ (Some h ∷ [])) ≡ max (greatest xs) h.upper
unfolding greatest
greatest_case [] h = omega arith
greatest_case (None ∷ xs) h = greatest_case xs h
greatest_case (Some g ∷ xs) h = omega (arith, greatest_case xs h)

pub greatest_none : (xs : List (Option Held)) → count xs ≡ 0 → greatest xs ≡ 0
unfolding count greatest
greatest_none [] e = refl
greatest_none (None ∷ xs) e = greatest_none xs e
greatest_none (Some h ∷ xs) e = absurd (omega arith)

pub greatest_set : (xs : List (Option Held)) (i : ℕ) → greatest (set xs i None) ≤ greatest xs
unfolding greatest
greatest_set [] i = omega arith
greatest_set (None ∷ xs) zero = omega arith
greatest_set (Some h ∷ xs) zero = omega arith
greatest_set (None ∷ xs) (suc i) = greatest_set xs i
greatest_set (Some h ∷ xs) (suc i) = omega (arith, greatest_set xs i)
