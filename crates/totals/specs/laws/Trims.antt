-- Holes at the end change no total. Assumes nothing.
use Rattle.std.specs.Prelude.{ℕ, suc, max, ◌≡◌, refl, cond, List, [], ◌∷◌, eqb, Option, None, Some}
use Rattle.std.proofs.Common.{ap, ◌∙◌}
use Rattle.places.specs.declared.Held.{Held}
use Rattle.places.specs.Holes.{trim}
use Rattle.places.specs.laws.Trims.{ahead_same}
use Rattle.totals.specs.Totals.{count, greatest, first_with, totals_of}

count_trim : (xs : List (Option Held)) → count (trim xs) ≡ count xs
unfolding count trim
count_trim [] = refl
count_trim (None ∷ xs) = ahead_same count refl None (trim xs) ∙ count_trim xs
count_trim (Some h ∷ xs) = ahead_same count refl (Some h) (trim xs) ∙ ap suc (count_trim xs)

greatest_trim : (xs : List (Option Held)) → greatest (trim xs) ≡ greatest xs
unfolding greatest trim
greatest_trim [] = refl
greatest_trim (None ∷ xs) = ahead_same greatest refl None (trim xs) ∙ greatest_trim xs
greatest_trim (Some h ∷ xs) = ahead_same greatest refl (Some h) (trim xs) ∙ ap (max h.upper) (greatest_trim xs)

first_trim : (u k : ℕ) (xs : List (Option Held)) → first_with u k (trim xs) ≡ first_with u k xs
unfolding first_with trim
first_trim u k [] = refl
first_trim u k (None ∷ xs) = ahead_same (first_with u k) refl None (trim xs) ∙ first_trim u (suc k) xs
first_trim u k (Some h ∷ xs) =
    ahead_same (first_with u k) refl (Some h) (trim xs) ∙ ap (cond (eqb h.upper u) (suc k)) (first_trim u (suc k) xs)

pub totals_trim : (xs : List (Option Held)) → totals_of (trim xs) ≡ totals_of xs
unfolding totals_of
totals_trim xs = rw (count_trim xs, greatest_trim xs, first_trim (greatest xs) 0 xs)
