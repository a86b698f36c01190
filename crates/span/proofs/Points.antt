-- From the ends to every point: what is shown of the ends of intervals in units, said of all fractions in them. Assumes nothing.
use mathlib.Core.Path.{◌≡◌, ap}
use Prim.Native.Nat.{ℕ, ◌+◌, ◌*◌, ◌-◌, ◌≤◌}
use native.Mathlib.Nat.{mul-le-mul_right, le_of_mul-le-mul_right}
use native.Mathlib.Omega.{arith}
use Rattle.exact.specs.Fraction.{Frac, ◌⊑◌, Positive, zero_f, ◌⊞◌, neg, ◌⊟◌, ◌⊠◌, inverse}
use Rattle.exact.proofs.laws.Frac.{⊑_trans, ⊞-mono, ⊟-mono, ⊠-mono, ⊠-comm, smaller_left, smaller_right, smaller_glb}
use Rattle.exact.specs.Bracket.{smaller, Bracket}
use Rattle.exact.specs.Holding.{◌∈◌}
use Rattle.span.specs.Spans.{unit, unit_positive, units}

-- from i to j units
abbrev pub Between : ℕ → ℕ → Bracket
Between i j = record { lo = units i; hi = units j }

-- 0 ≤ a ≤ p and 0 ≤ b ≤ q give a b ≤ p q
product_mono : {a p b q : Frac} → zero_f ⊑ b → zero_f ⊑ p → a ⊑ p → b ⊑ q → a ⊠ b ⊑ p ⊠ q
product_mono {a} {p} {b} {q} z w h k =
    ⊑_trans (⊠-mono b z h) (⊑_trans (⊠-comm p b) (⊑_trans (⊠-mono p w k) (⊠-comm q p)))

from_zero_lem : (i : ℕ) → zero_f ⊑ units i
unfolding zero_f units
from_zero_lem i = omega arith

units_product : (i j k : ℕ) → k * unit ≤ i * j → units k ⊑ units i ⊠ units j
unfolding units ◌⊠◌
units_product i j k h = record { cross = omega (arith, mul-le-mul_right unit h) }

product_units : (i j k : ℕ) → i * j ≤ k * unit → units i ⊠ units j ⊑ units k
unfolding units ◌⊠◌
product_units i j k h = record { cross = omega (arith, mul-le-mul_right unit h) }

pub product_points : (i i' j j' k k' : ℕ) → k * unit ≤ i * j → i' * j' ≤ k' * unit
    → (p q : Frac) → p ∈ Between i i' → q ∈ Between j j' → p ⊠ q ∈ Between k k'
product_points i i' j j' k k' a b p q h g =
    let z = ⊑_trans (from_zero_lem i) h.above in
    let w = ⊑_trans (from_zero_lem j) g.above in
    record {
      above = ⊑_trans (units_product i j k a) (product_mono (from_zero_lem j) z h.above g.above);
      below = ⊑_trans (product_mono w (from_zero_lem i') h.below g.below) (product_units i' j' k' b);
    }

units_sum : (i j k : ℕ) → k ≤ i + j → units k ⊑ units i ⊞ units j
unfolding units ◌⊞◌
units_sum i j k h = record { cross = omega (arith, mul-le-mul_right (unit * unit) h) }

sum_units : (i j k : ℕ) → i + j ≤ k → units i ⊞ units j ⊑ units k
unfolding units ◌⊞◌
sum_units i j k h = record { cross = omega (arith, mul-le-mul_right (unit * unit) h) }

pub sum_points : (i i' j j' k k' : ℕ) → k ≤ i + j → i' + j' ≤ k'
    → (p q : Frac) → p ∈ Between i i' → q ∈ Between j j' → p ⊞ q ∈ Between k k'
sum_points i i' j j' k k' a b p q h g =
    record {
      above = ⊑_trans (units_sum i j k a) (⊞-mono h.above g.above);
      below = ⊑_trans (⊞-mono h.below g.below) (sum_units i' j' k' b);
    }

units_difference : (i j k : ℕ) → k + j ≤ i → units k ⊑ units i ⊟ units j
unfolding units ◌⊟◌ ◌⊞◌ neg
units_difference i j k h = record { cross = omega (arith, mul-le-mul_right (unit * unit) h) }

difference_units : (i j k : ℕ) → i ≤ k + j → units i ⊟ units j ⊑ units k
unfolding units ◌⊟◌ ◌⊞◌ neg
difference_units i j k h = record { cross = omega (arith, mul-le-mul_right (unit * unit) h) }

pub difference_points : (i i' j j' k k' : ℕ) → k + j' ≤ i → i' ≤ k' + j
    → (p q : Frac) → p ∈ Between i i' → q ∈ Between j j' → p ⊟ q ∈ Between k k'
difference_points i i' j j' k k' a b p q h g =
    record {
      above = ⊑_trans (units_difference i j' k a) (⊟-mono h.above g.below);
      below = ⊑_trans (⊟-mono h.below g.above) (difference_units i' j k' b);
    }

pub quotient_points : (i i' j j' k k' : ℕ) → k * j' ≤ i * unit → i' * unit ≤ k' * j
    → (p q : Frac) → p ∈ Between i i' → q ∈ Between j j' → (h : Positive q) → p ⊠ inverse q h ∈ Between k k'
unfolding units ◌⊠◌ inverse
quotient_points i i' j j' k k' a b p q h g z =
    let Q = q.plus - q.minus in
    let e : q.plus ≡ q.minus + Q = omega (arith, z.above) in
    let most : Q * unit ≤ j' * q.den = omega (arith, g.below.cross, ap (λ (n : ℕ). n * unit) e) in
    let least : j * q.den ≤ Q * unit = omega (arith, g.above.cross, ap (λ (n : ℕ). n * unit) e) in
    record {
      above = record { cross = lower Q most };
      below = record { cross = upper Q least };
    }
  where
    lower : (Q : ℕ) → Q * unit ≤ j' * q.den
        → k * (p.den * Q) + (p.plus * 0 + p.minus * q.den) * unit ≤ (p.plus * q.den + p.minus * 0) * unit + 0 * (p.den * Q)
    lower Q most =
        le_of_mul-le-mul_right {k = unit}
        (omega (arith, mul-le-mul_right (k * p.den) most, mul-le-mul_right (p.den * q.den) a, mul-le-mul_right (unit * q.den) h.above.cross))
        unit_positive

    upper : (Q : ℕ) → j * q.den ≤ Q * unit
        → (p.plus * q.den + p.minus * 0) * unit + 0 * (p.den * Q) ≤ k' * (p.den * Q) + (p.plus * 0 + p.minus * q.den) * unit
    upper Q least =
        le_of_mul-le-mul_right {k = unit}
        (omega (arith, mul-le-mul_right (k' * p.den) least, mul-le-mul_right (p.den * q.den) b, mul-le-mul_right (unit * q.den) h.below.cross))
        unit_positive

pub units_mono : {i j : ℕ} → i ≤ j → units i ⊑ units j
unfolding units
units_mono h = record { cross = omega (arith, mul-le-mul_right unit h) }

-- r is at most either lower end; its upper end is at least one of the two
pub smaller_low : (i i' j j' k : ℕ) → k ≤ i → k ≤ j → (p q : Frac) → p ∈ Between i i' → q ∈ Between j j' → units k ⊑ smaller p q
smaller_low i i' j j' k a b p q h g = smaller_glb (⊑_trans (units_mono a) h.above) (⊑_trans (units_mono b) g.above)

pub smaller_left_high : (i i' k' : ℕ) → i' ≤ k' → (p q : Frac) → p ∈ Between i i' → smaller p q ⊑ units k'
smaller_left_high i i' k' a p q h = ⊑_trans (smaller_left p q) (⊑_trans h.below (units_mono a))

pub smaller_right_high : (j j' k' : ℕ) → j' ≤ k' → (p q : Frac) → q ∈ Between j j' → smaller p q ⊑ units k'
smaller_right_high j j' k' a p q g = ⊑_trans (smaller_right p q) (⊑_trans g.below (units_mono a))
