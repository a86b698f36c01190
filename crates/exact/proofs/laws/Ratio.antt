-- Laws of the fractions from 0 up, an ordered semiring with division.
-- Orders are records, so that their fractions can be implicit arguments and `omega` reads them by their field. Assumes nothing.
use Rattle.std.specs.Prelude.{ℕ, zero, suc, ◌+◌, ◌*◌, ◌-◌, ◌≤◌, ◌<◌, ◌≡◌}
use Rattle.std.proofs.Common.{ap, mul-pos, mul-le-mul, mul-le-mul_right, le_of_mul-le-mul_right, arith}
use Rattle.exact.specs.Fraction.{Above0, Ratio, ◌≼◌, ◌≈◌, ◌⊕◌, ◌⊖◌, ◌⊗◌, power, recip, sum, whole}

-- Order

pub ≼_refl : (x : Ratio) → x ≼ x
≼_refl x = omega arith

pub ≼_trans : {x y z : Ratio} → x ≼ y → y ≼ z → x ≼ z
≼_trans {x} {y} {z} h k =
    record { cross = le_of_mul-le-mul_right {k = y.den} (omega (arith, mul-le-mul_right z.den h.cross, mul-le-mul_right x.den k.cross)) y.positive }

pub to≼ : {x y : Ratio} → x ≈ y → x ≼ y
to≼ h = omega arith

pub from≼ : {x y : Ratio} → x ≈ y → y ≼ x
from≼ h = omega arith

pub zero-≼ : (x : Ratio) → whole 0 ≼ x
unfolding whole
zero-≼ x = omega arith

-- Sums

pub ⊕-mono : {a b c d : Ratio} → a ≼ b → c ≼ d → a ⊕ c ≼ b ⊕ d
unfolding ◌⊕◌
⊕-mono {a} {b} {c} {d} h k = omega (arith, mul-le-mul_right (c.den * d.den) h.cross, mul-le-mul_right (a.den * b.den) k.cross)

pub ⊕-comm : (x y : Ratio) → x ⊕ y ≈ y ⊕ x
unfolding ◌⊕◌
⊕-comm x y = omega arith

pub ⊕-assoc : (x y z : Ratio) → (x ⊕ y) ⊕ z ≈ x ⊕ (y ⊕ z)
unfolding ◌⊕◌
⊕-assoc x y z = omega arith

pub ⊕-upper : (x y : Ratio) → x ≼ x ⊕ y
unfolding ◌⊕◌
⊕-upper x y = omega arith

-- Products

pub ⊗_mono : {a b c d : Ratio} → a ≼ b → c ≼ d → a ⊗ c ≼ b ⊗ d
unfolding ◌⊗◌
⊗_mono {a} {b} {c} {d} h k = omega (arith, mul-le-mul h.cross k.cross)

pub ⊗_comm : (x y : Ratio) → x ⊗ y ≈ y ⊗ x
unfolding ◌⊗◌
⊗_comm x y = omega arith

pub ⊗_assoc : (x y z : Ratio) → (x ⊗ y) ⊗ z ≈ x ⊗ (y ⊗ z)
unfolding ◌⊗◌
⊗_assoc x y z = omega arith

pub distrib : (x y z : Ratio) → x ⊗ (y ⊕ z) ≈ x ⊗ y ⊕ x ⊗ z
unfolding ◌⊗◌ ◌⊕◌
distrib x y z = omega arith

-- Differences and reciprocals

pub above_whole : (n : ℕ) → Above0 (whole (suc n))
unfolding whole
above_whole n = omega arith

pub recip_anti : {x y : Ratio} (h : Above0 x) (k : Above0 y) → x ≼ y → recip y k ≼ recip x h
unfolding recip
recip_anti h k l = omega arith

pub above_one : {x : Ratio} → whole 1 ≼ x → Above0 x
unfolding whole
above_one {x} l = omega (arith, x.positive)

pub above_mono : {x y : Ratio} → Above0 x → x ≼ y → Above0 y
above_mono {x} {y} h l = record { above = go y.num l.cross }
  where
    go : (n : ℕ) → x.num * y.den ≤ n * x.den → 0 < n
    go zero l = omega (arith, mul-pos h.above y.positive)
    go (suc n) l = omega arith

pub ⊖-anti : (x : Ratio) {y z : Ratio} → y ≼ z → Above0 (x ⊖ z) → x ⊖ z ≼ x ⊖ y
unfolding ◌⊖◌
⊖-anti x {y} {z} l h = record { cross = go (x.num * z.den - z.num * x.den) (x.num * y.den - y.num * x.den) (omega arith) (omega arith) }
  where
    go : (a b : ℕ) → a + z.num * x.den ≡ x.num * z.den → x.num * y.den ≤ b + y.num * x.den
        → a * (x.den * y.den) ≤ b * (x.den * z.den)
    go a b p q =
        omega (arith, ap (λ m. m * (x.den * y.den)) p, mul-le-mul_right (x.den * z.den) q, mul-le-mul_right (x.den * x.den) l.cross)

-- Powers and sums of a row

pub power_mono : {x y : Ratio} → x ≼ y → (n : ℕ) → power x n ≼ power y n
unfolding power
power_mono l zero = ≼_refl (whole 1)
power_mono l (suc n) = ⊗_mono l (power_mono l n)

pub sum_mono : {f g : ℕ → Ratio} → ((j : ℕ) → f j ≼ g j) → (n : ℕ) → sum f n ≼ sum g n
unfolding sum
sum_mono l zero = ≼_refl (whole 0)
sum_mono l (suc n) = ⊕-mono (sum_mono l n) (l n)

-- Rearrangements that serve more than once

pub exchange : (a b c d : Ratio) → a ⊕ b ⊕ (c ⊕ d) ≈ a ⊕ c ⊕ (b ⊕ d)
unfolding ◌⊕◌
exchange a b c d = omega arith

pub nothing_times : (x : Ratio) → whole 0 ⊗ x ≼ whole 0
unfolding whole ◌⊗◌
nothing_times x = omega arith

pub shift : (S r z : Ratio) → S ⊗ r ⊗ z ≈ S ⊗ z ⊗ r
unfolding ◌⊗◌
shift S r z = omega arith

pub one_times : (x : Ratio) → whole 1 ⊗ x ≈ x
unfolding whole ◌⊗◌
one_times x = omega arith

pub unit_right : (x : Ratio) → x ≼ x ⊗ whole 1
unfolding whole ◌⊗◌
unit_right x = omega arith
