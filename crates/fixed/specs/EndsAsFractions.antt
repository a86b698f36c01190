-- The ends of intervals as fractions: sums, multiples and products of ends, from what their whole numbers are. Assumes nothing.
use Rattle.std.specs.Prelude.{◌≡◌, ℕ, ◌+◌, ◌*◌, ◌≤◌, ◌<◌, ℤ}
use Rattle.std.proofs.Math.Path.{ap}
use Rattle.std.proofs.Math.Nat.{mul-le-mul_right, le_of_mul-le-mul_right}
use Rattle.std.proofs.Common.{arith}
use Rattle.exact.specs.Fraction.{Frac, ◌⊑◌, zero_f, ◌⊞◌, ◌⊠◌}
use Rattle.fixed.specs.FloorAndCeiling.{up, dn}
use Rattle.fixed.specs.Logs.{fixed, fixed_z}
use Rattle.fixed.specs.Promises.{Value}

-- z = (a - b) + (c - d)
pub record Adds (a b c d : ℕ) (z : ℤ) : Type 0 where
  pub equal : up z + (b + d) ≡ dn z + (a + c)

pub sum_below : {a b c d : ℕ} {z : ℤ} → Adds a b c d z → fixed_z z ⊑ fixed a b ⊞ fixed c d
unfolding fixed ◌⊞◌
sum_below e = record { cross = omega (arith, e.equal) }

pub sum_above : {a b c d : ℕ} {z : ℤ} → Adds a b c d z → fixed a b ⊞ fixed c d ⊑ fixed_z z
unfolding fixed ◌⊞◌
sum_above e = record { cross = omega (arith, e.equal) }

-- c = p / d times a number x, beside z: z d ≤ x p, and z d ≥ x p

module _ (c : Frac) (p d : ℕ) (e : Value c p d) (o : 0 < d) where
  pub from_zero_lem : zero_f ⊑ c
  unfolding zero_f
  from_zero_lem = record { cross = le_of_mul-le-mul_right {k = d} (omega (arith, e.equal)) o }

  pub multiple_below : (x z : ℤ) → up z * d + dn x * p ≤ up x * p + dn z * d → fixed_z z ⊑ c ⊠ fixed_z x
  unfolding fixed ◌⊠◌
  multiple_below x z l =
      record {
        cross =
            le_of_mul-le-mul_right {k = d}
            (omega (arith, mul-le-mul_right c.den l, ap (λ i. i * up x) e.equal, ap (λ i. i * dn x) e.equal))
            o;
      }

  pub multiple_above : (x z : ℤ) → up x * p + dn z * d ≤ up z * d + dn x * p → c ⊠ fixed_z x ⊑ fixed_z z
  unfolding fixed ◌⊠◌
  multiple_above x z l =
      record {
        cross =
            le_of_mul-le-mul_right {k = d}
            (omega (arith, mul-le-mul_right c.den l, ap (λ i. i * up x) e.equal, ap (λ i. i * dn x) e.equal))
            o;
      }
