-- The totals of a plain list with holes, worked afresh (request 8).
use Rattle.std.specs.Prelude.{ℕ, suc, max, cond, List, [], ◌∷◌, eqb, Option, None, Some}
use Rattle.places.specs.declared.Held.{Held}
use Rattle.totals.specs.declared.Totals.{Totals}

-- the number of cases
unfoldable pub count : List (Option Held) → ℕ
count [] = 0
count (None ∷ xs) = count xs
count (Some h ∷ xs) = suc (count xs)

-- the greatest upper ΔP; 0 where there is no case
unfoldable pub greatest : List (Option Held) → ℕ
greatest [] = 0
greatest (None ∷ xs) = greatest xs
greatest (Some h ∷ xs) = max h.upper (greatest xs)

-- the first place whose case has this upper ΔP, with so many places ahead of the list; 0 for none
unfoldable pub first_with : (upper ahead : ℕ) → List (Option Held) → ℕ
first_with u k [] = 0
first_with u k (None ∷ xs) = first_with u (suc k) xs
first_with u k (Some h ∷ xs) = cond (eqb h.upper u) (suc k) (first_with u (suc k) xs)

unfoldable pub totals_of : List (Option Held) → Totals
totals_of xs = record { cases = count xs; greatest = greatest xs; place = first_with (greatest xs) 0 xs }
