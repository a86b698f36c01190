-- Bytes written as hexadecimal digits, the letters upper case (request 3).
use Rattle.std.specs.Prelude.{ℕ, ◌+◌, ◌/◌, ◌%◌, Bool, true, not, ◌&&◌, cond, List, [], ◌∷◌, ltb}
use Rattle.hexadecimals.specs.Digits.{within}

-- 0 to 9, then A to F
unfoldable pub upper : ℕ → ℕ
upper d = cond (ltb d 10) (48 + d) (55 + d)

-- two digits to a byte, the high one first
unfoldable pub digits_of : List ℕ → List ℕ
digits_of [] = []
digits_of (b ∷ bytes) = upper (b / 16) ∷ upper (b % 16) ∷ digits_of bytes

-- no character is a small letter a to f
unfoldable pub upper_case : List ℕ → Bool
upper_case [] = true
upper_case (b ∷ line) = not (within 97 102 b) && upper_case line
