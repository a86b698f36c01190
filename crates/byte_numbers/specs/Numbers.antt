-- Numbers in bytes, high byte first (document 01, "The case frame", "The answer frame"; request 3). Assumes nothing.
use Rattle.std.specs.Prelude.{ℕ, Bool, ◌||◌, cond, eqb, ◌+◌, ◌*◌, ◌/◌, ◌%◌, ◌^◌, List, [], ◌∷◌, ◌++◌, get_or}

-- the number in the one, two, four or eight bytes from a place on
abbrev pub one_at : List ℕ → ℕ → ℕ
one_at s at = get_or s at 0

abbrev pub two_at : List ℕ → ℕ → ℕ
two_at s at = 256 * one_at s at + one_at s (at + 1)

abbrev pub four_at : List ℕ → ℕ → ℕ
four_at s at = 65536 * two_at s at + two_at s (at + 2)

abbrev pub eight_at : List ℕ → ℕ → ℕ
eight_at s at = 2 ^ 32 * four_at s at + four_at s (at + 4)

-- the sizes that numbers have
abbrev pub is_size : ℕ → Bool
is_size n = eqb n 1 || eqb n 2 || eqb n 4 || eqb n 8

-- the number in as many bytes from a place on
abbrev pub number_at : (size : ℕ) → List ℕ → ℕ → ℕ
number_at size s at = cond (eqb size 1) (one_at s at) (cond (eqb size 2) (two_at s at) (cond (eqb size 4) (four_at s at) (eight_at s at)))

-- a number's last one, two, four or eight bytes
unfoldable pub one : ℕ → List ℕ
one v = v % 256 ∷ []

unfoldable pub two : ℕ → List ℕ
two v = v / 2 ^ 8 % 256 ∷ v % 256 ∷ []

unfoldable pub four : ℕ → List ℕ
four v = v / 2 ^ 24 % 256 ∷ v / 2 ^ 16 % 256 ∷ v / 2 ^ 8 % 256 ∷ v % 256 ∷ []

unfoldable pub eight : ℕ → List ℕ
eight v = four (v / 2 ^ 32) ++ four v

-- as many of a number's last bytes
abbrev pub last_bytes : (size : ℕ) → ℕ → List ℕ
last_bytes size v = cond (eqb size 1) (one v) (cond (eqb size 2) (two v) (cond (eqb size 4) (four v) (eight v)))
