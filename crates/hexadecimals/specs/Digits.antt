-- The bytes that a line of hexadecimal digits spells, either letter case (document 01, "The case frame").
use Rattle.std.specs.Prelude.{ℕ, ◌+◌, ◌*◌, ◌-◌, Bool, true, ◌&&◌, cond, List, [], ◌∷◌, leb, ltb}

-- least ≤ x ≤ most
abbrev pub within : (least most x : ℕ) → Bool
within least most x = leb least x && leb x most

-- the digits 0 to 9, A to F and a to f, in ASCII; of any other character 16, which no digit is worth
unfoldable pub digit_of : ℕ → ℕ
digit_of b = cond (within 48 57 b) (b - 48) (cond (within 65 70 b) (b - 55) (cond (within 97 102 b) (b - 87) 16))

unfoldable pub all_digits : List ℕ → Bool
all_digits [] = true
all_digits (b ∷ line) = ltb (digit_of b) 16 && all_digits line

-- two digits to a byte, the high one first
unfoldable pub bytes_of : List ℕ → List ℕ
bytes_of [] = []
bytes_of (b ∷ []) = []
bytes_of (high ∷ (low ∷ line)) = (16 * digit_of high + digit_of low) ∷ bytes_of line
