-- Numbers as text: decimal digits (document 01, "The program `reckon`"). ASCII throughout.
use Rattle.std.specs.Prelude.{ℕ, zero, suc, ◌+◌, ◌/◌, ◌%◌, List, [], ◌∷◌, ◌++◌}

-- the decimal digits of n in k places or fewer, none of 0
unfoldable pub places : (k n : ℕ) → List ℕ
places zero n = []
places (suc k) zero = []
places (suc k) (suc n) = places k (suc n / 10) ++ ((48 + suc n % 10) ∷ [])

-- the last digit, and before it those of the tens: n places are enough for them
unfoldable pub decimal : ℕ → List ℕ
decimal n = places n (n / 10) ++ ((48 + n % 10) ∷ [])
