-- Laws of the signed fractions, (plus - minus)/den: an ordered field.
-- Every law is one of natural polynomials, so `omega` proves it once the right facts are handed over multiplied.
-- Assumes nothing.
use Rattle.std.specs.Prelude.{ℕ, ◌+◌, ◌*◌, ◌-◌, ◌≤◌, ◌<◌, ◌≡◌}
use Rattle.std.proofs.Common.{ap, mul-le-mul_right, le_of_mul-le-mul_right, arith}
use Rattle.std.proofs.Math.Decide.{dec_le}
use Rattle.exact.specs.Fraction.{Frac, Positive, ◌⊑◌, ◌⊞◌, ◌⊟◌, ◌⊠◌, inverse, neg, zero_f}
use Rattle.exact.specs.Bracket.{larger, smaller}
use Rattle.exact.specs.laws.Decide.{dec_f, decided, ⊑-total}

-- Order

pub ⊑_refl : (x : Frac) → x ⊑ x
⊑_refl x = omega arith

pub ⊑_trans : {x y z : Frac} → x ⊑ y → y ⊑ z → x ⊑ z
⊑_trans {x} {y} {z} h k =
    record {
      cross =
          le_of_mul-le-mul_right {k = y.den}
          (omega (arith, mul-le-mul_right z.den h.cross, mul-le-mul_right x.den k.cross))
          y.positive;
    }

pub positive_mono : {x y : Frac} → Positive x → x ⊑ y → Positive y
positive_mono {x} {y} h l = record { above = go (dec_le y.plus y.minus) }
  where
    never : y.plus ≤ y.minus → ⊥
    never k =
        omega (
          arith,
          y.positive,
          mul-le-mul_right x.den k,
          mul-le-mul_right y.den h.above,
          l.cross,
        )

    go : Dec (y.plus ≤ y.minus) → y.minus < y.plus
    go (yes k) = absurd (never k)
    go (no k) = omega arith

-- Sums and opposites

⊞-left : {a b : Frac} (c : Frac) → a ⊑ b → a ⊞ c ⊑ b ⊞ c
unfolding ◌⊞◌
⊞-left {a} {b} c h = omega (arith, mul-le-mul_right (c.den * c.den) h.cross)

⊞-right : (a : Frac) {c d : Frac} → c ⊑ d → a ⊞ c ⊑ a ⊞ d
unfolding ◌⊞◌
⊞-right a {c} {d} h = omega (arith, mul-le-mul_right (a.den * a.den) h.cross)

pub ⊞-mono : {a b c d : Frac} → a ⊑ b → c ⊑ d → a ⊞ c ⊑ b ⊞ d
⊞-mono {a} {b} {c} {d} h k = ⊑_trans (⊞-left c h) (⊞-right b k)

pub neg_anti : {x y : Frac} → x ⊑ y → neg y ⊑ neg x
unfolding neg
neg_anti h = omega arith

pub ⊟-mono : {a b c d : Frac} → a ⊑ b → d ⊑ c → a ⊟ c ⊑ b ⊟ d
unfolding ◌⊟◌
⊟-mono h k = ⊞-mono h (neg_anti k)

-- Products

pub rearrange : (a b p q : ℕ) → a ≤ b → p ≤ q → a * q + b * p ≤ b * q + a * p
rearrange a b p q h k = go (b - a) (q - p) (omega arith) (omega arith)
  where
    go : (i j : ℕ) → b ≡ a + i → q ≡ p + j → a * q + b * p ≤ b * q + a * p
    go i j e f = rw (e, f) (omega arith)

pub ⊠-comm : (x y : Frac) → x ⊠ y ⊑ y ⊠ x
unfolding ◌⊠◌
⊠-comm x y = omega arith

-- multiplying by z ≥ 0
pub ⊠-mono : {x y : Frac} (z : Frac) → zero_f ⊑ z → x ⊑ y → x ⊠ z ⊑ y ⊠ z
unfolding zero_f ◌⊠◌
⊠-mono {x} {y} z n h =
    omega (arith, mul-le-mul_right z.den (rearrange _ _ z.minus z.plus h.cross (omega arith)))

pub scale_mono : {c x y : Frac} → zero_f ⊑ c → x ⊑ y → c ⊠ x ⊑ c ⊠ y
scale_mono {c} {x} {y} z l = ⊑_trans (⊠-comm c x) (⊑_trans (⊠-mono c z l) (⊠-comm y c))

-- 0 ≤ a ≤ p and 0 ≤ b ≤ q give a b ≤ p q
pub product_mono : {a p b q : Frac} → zero_f ⊑ b → zero_f ⊑ p → a ⊑ p → b ⊑ q → a ⊠ b ⊑ p ⊠ q
product_mono {a} {p} {b} {q} z w h k =
    ⊑_trans (⊠-mono b z h) (scale_mono w k)

-- multiplying by z ≤ 0
pub ⊠-anti : {x y : Frac} (z : Frac) → z ⊑ zero_f → x ⊑ y → y ⊠ z ⊑ x ⊠ z
unfolding zero_f ◌⊠◌
⊠-anti {x} {y} z n h =
    omega (arith, mul-le-mul_right z.den (rearrange _ _ z.plus z.minus h.cross (omega arith)))

pub inverse_anti : {x y : Frac} (h : Positive x) (k : Positive y) → x ⊑ y → inverse y k ⊑ inverse x h
unfolding inverse
inverse_anti {x} {y} h k l =
    record { cross = go (x.plus - x.minus) (y.plus - y.minus) (omega arith) (omega arith) }
  where
    go : (i j : ℕ) → x.plus ≡ x.minus + i → y.plus ≡ y.minus + j → y.den * i + 0 * j ≤ x.den * j + 0 * i
    go i j e f = omega (arith, ap (λ m. m * y.den) e, ap (λ m. m * x.den) f, l.cross)

-- The smaller and the larger of two

pub smaller_case : (P : Frac → Type 0) (x y : Frac) → (x ⊑ y → P x) → (y ⊑ x → P y) → P (smaller x y)
unfolding smaller
smaller_case P x y f g = decided P (dec_f x y) f (λ h. g (⊑-total x y h))

larger_case : (P : Frac → Type 0) (x y : Frac) → (x ⊑ y → P y) → (y ⊑ x → P x) → P (larger x y)
unfolding larger
larger_case P x y f g = decided P (dec_f x y) f (λ h. g (⊑-total x y h))

pub smaller_left : (x y : Frac) → smaller x y ⊑ x
smaller_left x y = smaller_case (λ z. z ⊑ x) x y (λ h. ⊑_refl x) (λ h. h)

pub smaller_right : (x y : Frac) → smaller x y ⊑ y
smaller_right x y = smaller_case (λ z. z ⊑ y) x y (λ h. h) (λ h. ⊑_refl y)

pub larger_left : (x y : Frac) → x ⊑ larger x y
larger_left x y = larger_case (λ z. x ⊑ z) x y (λ h. h) (λ h. ⊑_refl x)

pub larger_right : (x y : Frac) → y ⊑ larger x y
larger_right x y = larger_case (λ z. y ⊑ z) x y (λ h. ⊑_refl y) (λ h. h)

pub smaller_glb : {x y z : Frac} → z ⊑ x → z ⊑ y → z ⊑ smaller x y
smaller_glb {x} {y} {z} h k = smaller_case (λ w. z ⊑ w) x y (λ l. h) (λ l. k)

pub larger_lub : {x y z : Frac} → x ⊑ z → y ⊑ z → larger x y ⊑ z
larger_lub {x} {y} {z} h k = larger_case (λ w. w ⊑ z) x y (λ l. k) (λ l. h)
