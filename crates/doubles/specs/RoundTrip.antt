-- What holds of the way in and the way back together, for one double and its scale (request 3).
use Rattle.std.specs.Prelude.{◌≡◌, false, ◌↔◌, ℕ, ◌*◌, ◌^◌, ◌≤◌, ◌<◌, T, Float}
use Rattle.std.specs.Float.{binary64}
use Rattle.std.specs.Float.Ieee.{fits, to_bits}
use Rattle.std.specs.Float.Ieee.Digits.{Equals}
use Rattle.std.specs.Float.Ieee.Scale.{finite}
use Rattle.doubles.specs.Doubles.{unusable, rounded, nearest, Nearest, minus_zero}
use Rattle.doubles.specs.Bits.{exponent, fraction, units}

-- what a frame may hold for a field of scale s: no field's greatest number is above 1,000,000 times its scale
pub record Fraction (s n : ℕ) : Type 0 where
  pub scale : 0 < s
  pub most : s ≤ 1000
  pub number : n ≤ 1000000 * s

-- x is the nearest double to such a fraction, and not minus zero
pub record Exactly (s : ℕ) (x : Float) : Type 0 where
  pub number : ℕ
  pub fraction : Fraction s number
  pub nearest : Nearest s number x
  pub no_minus : minus_zero x ≡ false

pub record RoundTrip : Type 0 where
  -- a finite double's exact size, over its bits
  pub over_bits : (x : Float) → T (fits binary64 x) → T (finite x) → Equals x (units (exponent (to_bits binary64 x)) (fraction (to_bits binary64 x))) (2 ^ 1074)
  -- the way back gives a double to which no other is nearer, test 16 passes it, and minus zero apart there is no other
  pub nearest_is : (s n : ℕ) → Fraction s n → Nearest s n (nearest s n)
  pub back_usable : (s n : ℕ) → Fraction s n → unusable (nearest s n) ≡ false
  pub only_nearest : (s n : ℕ) (x : Float) → Fraction s n → T (fits binary64 x) → minus_zero x ≡ false → Nearest s n x → x ≡ nearest s n
  -- a whole number is unchanged by going to a double and back
  pub back_in : (s n : ℕ) → Fraction s n → rounded s (nearest s n) ≡ n
  -- a double is unchanged exactly when it is such a nearest one
  pub comes_back : (s : ℕ) (x : Float) → T (fits binary64 x) → Fraction s (rounded s x) → (nearest s (rounded s x) ≡ x) ↔ Exactly s x
