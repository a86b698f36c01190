-- A double and the whole number that a frame has for it (request 3).
-- The kit writes a double as `nan`, an infinity, or `fin s m e`: m times 2 ^ e, below zero where s is true; 2 ^ e is the fraction up e / down e.
use Rattle.std.specs.Prelude.{ℕ, ◌+◌, ◌-◌, ◌*◌, ◌/◌, ◌≤◌, Bool, true, false, not, ◌||◌, pos, T, eqb, Float}
use Rattle.std.specs.Float.{nan, inf, fin, binary64}
use Rattle.std.specs.Float.Ieee.{up, down, lt, of_int, round, fits}
use Rattle.std.specs.Float.Ieee.Positive.{den}
use Rattle.std.specs.Float.Ieee.Scale.{finite}

-- the double that a whole number is
abbrev pub whole : ℕ → Float
whole n = of_int binary64 (pos n)

-- test 16 of one double: no finite number, a negative one, or more than 1,000,000,000; minus zero is not negative
unfoldable pub unusable : Float → Bool
unusable x = not (finite x) || lt x (whole 0) || lt (whole 1000000000) x

-- the way in: the exact value times the scale, and a half, rounded down; so a half goes up
unfoldable pub rounded : (scale : ℕ) → Float → ℕ
rounded scale nan = 0
rounded scale (inf s) = 0
rounded scale (fin s m e) = (2 * (m * up e * scale) + down e) / (2 * down e)

-- the way back: the fraction n / scale, rounded to a double
abbrev pub nearest : (scale n : ℕ) → Float
nearest scale n = round binary64 false n scale

-- how far a finite double lies from n / s: the distance is distance s n x / (den x * s)
unfoldable pub distance : (s n : ℕ) → Float → ℕ
distance s n nan = 0
distance s n (inf t) = 0
distance s n (fin false m e) = (m * up e * s - n * down e) + (n * down e - m * up e * s)
distance s n (fin true m e) = m * up e * s + n * down e

-- a finite double to which no other is nearer to n / s
pub record Nearest (s n : ℕ) (x : Float) : Type 0 where
  pub is_finite : T (finite x)
  pub none_nearer : (y : Float) → T (fits binary64 y) → T (finite y) → distance s n x * den y ≤ distance s n y * den x

unfoldable pub minus_zero : Float → Bool
minus_zero nan = false
minus_zero (inf t) = false
minus_zero (fin false m e) = false
minus_zero (fin true m e) = eqb m 0
