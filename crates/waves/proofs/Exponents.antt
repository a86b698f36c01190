-- ln Px and ln Ix of a gas at one point of ln R, and what a point says of the ends of an interval. Assumes nothing.
use Prim.Native.Nat.{ℕ, suc, ◌+◌, ◌*◌, ◌^◌, ◌≤◌, ◌<◌}
use native.Mathlib.Nat.{mul-le-mul_right}
use native.Mathlib.Omega.{arith}
use lib.IntN.{ℤ, pos, negsuc}
use lib.Pow.{pow_pos}
use Rattle.exact.specs.Fraction.{Frac, ◌⊑◌, of_ratio, neg, ◌⊞◌, ◌⊟◌, ◌⊠◌}
use Rattle.exact.proofs.laws.Frac.{⊑_refl, ⊑_trans}
use Rattle.exact.specs.Holding.{◌∈◌}
use Rattle.fixed.specs.declared.Log.{Log}
use Rattle.fixed.specs.Logs.{up, dn, fixed, fixed_z, bracket, Ordered, Narrow, Small}
use Rattle.fixed.specs.Promises.{LogFactors, LogProduct, Scalable}
use Rattle.fixed.specs.Enclosing.{wider, larger}
use Rattle.guidance.specs.Clouds.{over}
use Rattle.guidance.specs.Waves.{hundredths, thousandths, ten_thousandths}
use Rattle.waves.specs.Gas.{Logged}

abbrev pub pressure_at : Frac → Frac
pressure_at p = (neg (of_ratio (thousandths 1124)) ⊟ (of_ratio (hundredths 166) ⊠ p)) ⊞ (of_ratio (hundredths 26) ⊠ (p ⊠ p))

abbrev pub impulse_at : Frac → Frac
impulse_at p = (neg (of_ratio (ten_thousandths 34217)) ⊟ (of_ratio (thousandths 898) ⊠ p)) ⊟ (of_ratio (ten_thousandths 96) ⊠ (p ⊠ p))

-- (u - v)/B
abbrev point : (u v B : ℕ) → 0 < B → Frac
point u v B z = record { plus = u; minus = v; den = B; positive = z }

-- From 0 to 5

module _ (u B : ℕ) (z : 0 < B) (h : u ≤ 5 * B) where
  pressure_most_up : (y : 0 < 5) → pressure_at (point u 0 B z) ⊑ of_ratio (over 12 5 y)
  unfolding of_ratio neg ◌⊟◌ ◌⊞◌ ◌⊠◌
  pressure_most_up y = record { cross = omega (arith, mul-le-mul_right (u * B) h) }

  pressure_least_up : (y : 0 < 1) → neg (of_ratio (over 10 1 y)) ⊑ pressure_at (point u 0 B z)
  unfolding of_ratio neg ◌⊟◌ ◌⊞◌ ◌⊠◌
  pressure_least_up y = record { cross = omega (arith, mul-le-mul_right (B * B) h) }

  impulse_most_up : (y : 0 < 4) → impulse_at (point u 0 B z) ⊑ of_ratio (over 5 4 y)
  unfolding of_ratio neg ◌⊟◌ ◌⊞◌ ◌⊠◌
  impulse_most_up y = record { cross = omega arith }

  impulse_least_up : (y : 0 < 1) → neg (of_ratio (over 9 1 y)) ⊑ impulse_at (point u 0 B z)
  unfolding of_ratio neg ◌⊟◌ ◌⊞◌ ◌⊠◌
  impulse_least_up y = record { cross = omega (arith, mul-le-mul_right (B * B) h, mul-le-mul_right (u * B) h) }

-- Below 0

module _ (v B : ℕ) (z : 0 < B) where
  pressure_most_down : 100 * v ≤ 167 * B → (y : 0 < 5) → pressure_at (point 0 v B z) ⊑ of_ratio (over 12 5 y)
  unfolding of_ratio neg ◌⊟◌ ◌⊞◌ ◌⊠◌
  pressure_most_down h y = record { cross = omega (arith, mul-le-mul_right (B * B) h, mul-le-mul_right (v * B) h) }

  pressure_least_down : (y : 0 < 1) → neg (of_ratio (over 10 1 y)) ⊑ pressure_at (point 0 v B z)
  unfolding of_ratio neg ◌⊟◌ ◌⊞◌ ◌⊠◌
  pressure_least_down y = record { cross = omega arith }

  impulse_most_down : v ≤ 5 * B → (y : 0 < 4) → impulse_at (point 0 v B z) ⊑ of_ratio (over 5 4 y)
  unfolding of_ratio neg ◌⊟◌ ◌⊞◌ ◌⊠◌
  impulse_most_down h y = record { cross = omega (arith, mul-le-mul_right (B * B) h) }

  impulse_least_down : v ≤ 5 * B → (y : 0 < 1) → neg (of_ratio (over 9 1 y)) ⊑ impulse_at (point 0 v B z)
  unfolding of_ratio neg ◌⊟◌ ◌⊞◌ ◌⊠◌
  impulse_least_down h y = record { cross = omega (arith, mul-le-mul_right (B * B) h, mul-le-mul_right (v * B) h) }

-- At a number of units

pub pressure_most : (x : ℤ) → up x ≤ 5 * 2 ^ 30 → 100 * dn x ≤ 167 * 2 ^ 30 → (y : 0 < 5) → pressure_at (fixed_z x) ⊑ of_ratio (over 12 5 y)
unfolding fixed
pressure_most (pos n) h k y = pressure_most_up n (2 ^ 30) (pow_pos 30) h y
pressure_most (negsuc n) h k y = pressure_most_down (suc n) (2 ^ 30) (pow_pos 30) k y

pub pressure_least : (x : ℤ) → up x ≤ 5 * 2 ^ 30 → (y : 0 < 1) → neg (of_ratio (over 10 1 y)) ⊑ pressure_at (fixed_z x)
unfolding fixed
pressure_least (pos n) h y = pressure_least_up n (2 ^ 30) (pow_pos 30) h y
pressure_least (negsuc n) h y = pressure_least_down (suc n) (2 ^ 30) (pow_pos 30) y

pub impulse_most : (x : ℤ) → up x ≤ 5 * 2 ^ 30 → dn x ≤ 5 * 2 ^ 30 → (y : 0 < 4) → impulse_at (fixed_z x) ⊑ of_ratio (over 5 4 y)
unfolding fixed
impulse_most (pos n) h k y = impulse_most_up n (2 ^ 30) (pow_pos 30) h y
impulse_most (negsuc n) h k y = impulse_most_down (suc n) (2 ^ 30) (pow_pos 30) k y

pub impulse_least : (x : ℤ) → up x ≤ 5 * 2 ^ 30 → dn x ≤ 5 * 2 ^ 30 → (y : 0 < 1) → neg (of_ratio (over 9 1 y)) ⊑ impulse_at (fixed_z x)
unfolding fixed
impulse_least (pos n) h k y = impulse_least_up n (2 ^ 30) (pow_pos 30) h y
impulse_least (negsuc n) h k y = impulse_least_down (suc n) (2 ^ 30) (pow_pos 30) k y

-- The ends of an interval, by a point in it

pub upper_point : {l : Log} → Ordered l → fixed_z l.hi ∈ bracket l
unfolding bracket fixed
upper_point {l} o = record { above = record { cross = omega (arith, o.ordered) }; below = ⊑_refl _ }

-- one of the two parts is 0
up_alone : (x : ℤ) (A d : ℕ) → d * up x ≤ A + d * dn x → d * up x ≤ A
up_alone (pos n) A d h = omega arith
up_alone (negsuc n) A d h = omega arith

dn_alone : (x : ℤ) (A d : ℕ) → d * dn x ≤ A + d * up x → d * dn x ≤ A
dn_alone (pos n) A d h = omega arith
dn_alone (negsuc n) A d h = omega arith

pub upper_most : {y : Log} {p : Frac} {W : ℕ} (n d : ℕ) (z : 0 < d) → p ∈ bracket y → p ⊑ of_ratio (over n d z) → Narrow y W → d * up y.hi ≤ n * 2 ^ 30 + d * W
unfolding bracket fixed of_ratio
upper_most {y} {W = W} n d z m h w =
    up_alone y.hi _ d (omega (arith, (⊑_trans m.above h).cross, mul-le-mul_right d w.narrow))

pub upper_least : (y : Log) {p : Frac} (n d : ℕ) (z : 0 < d) → p ∈ bracket y → neg (of_ratio (over n d z)) ⊑ p → d * dn y.hi ≤ n * 2 ^ 30
unfolding bracket fixed of_ratio neg
upper_least y n d z m h = dn_alone y.hi _ d (omega (arith, (⊑_trans h m.below).cross))

-- What the operations ask of ln R and its square

module _ {l : Log} (x : Logged l) where
  pub squares : LogFactors l l
  squares =
      let small : Small l (2 ^ 33) = larger (omega arith) x.small in
      record { left = x.ordered; right = x.ordered; small_left = small; small_right = small }

  module _ {square : Log} (p : LogProduct l l square) where
    pub square_small : Small square (26 * 2 ^ 30)
    square_small = p.small (5 * 2 ^ 30) (26 * 2 ^ 30) x.small x.small (omega arith)

    pub square_scales : (k : ℕ) → k < 2 ^ 20 → Scalable k square
    square_scales k h = record { left = p.ordered; small = larger (omega arith) square_small; factor = h }

    pub square_width : (W : ℕ) → Narrow l W → Narrow square (11 * W + 82)
    square_width W w = wider (omega arith) (p.width (5 * 2 ^ 30) W W (11 * W + 81) x.small x.small w w (omega arith))
