-- Signed fractions that lie near each other, and how far apart the operations leave them. Assumes nothing.
use Rattle.std.specs.Prelude.{ℕ, ◌+◌, ◌*◌, ◌-◌, ◌≤◌, ◌<◌, ◌≡◌}
use Rattle.std.proofs.Common.{ap, mul-le-mul, mul-le-mul_right, arith}
use Rattle.std.proofs.Math.Decide.{dec_le}
use Rattle.exact.specs.Fraction.{Ratio, ◌≼◌, whole, ◌⊕◌, ◌⊗◌, Frac, ◌⊑◌, Positive, of_ratio, one_f, neg, ◌⊞◌, ◌⊟◌, ◌⊠◌, inverse}
use Rattle.exact.specs.Bracket.{smaller}
use Rattle.exact.proofs.laws.EndsMeet.{of_ratio_mono}
use Rattle.exact.proofs.laws.ExpSpread.{neg_moves}
use Rattle.exact.proofs.laws.Frac.{⊑_refl, ⊑_trans, ⊞-mono, ⊠-comm, rearrange, scale_mono, smaller_case, smaller_left, smaller_right}
use Rattle.exact.proofs.laws.Points.{signed_above}
use Rattle.exact.proofs.laws.Ratio.{one_times, to≼, from≼}
use Rattle.exact.proofs.laws.Spread.{together}

-- x ≤ y + δ
pub record Upto (x y : Frac) (δ : Ratio) : Type 0 where
  pub up : x ⊑ y ⊞ of_ratio δ

pub wider : {x y : Frac} {δ η : Ratio} → δ ≼ η → Upto x y δ → Upto x y η
wider {y = y} l h = record { up = ⊑_trans h.up (⊞-mono (⊑_refl y) (of_ratio_mono l)) }

grown : (x : Frac) (δ : Ratio) → x ⊑ x ⊞ of_ratio δ
unfolding of_ratio ◌⊞◌
grown x δ = omega arith

pub at_most : {x y : Frac} {δ : Ratio} → x ⊑ y → Upto x y δ
at_most {y = y} {δ = δ} h = record { up = ⊑_trans h (grown y δ) }

gathered : (x : Frac) (δ η : Ratio) → x ⊞ of_ratio δ ⊞ of_ratio η ⊑ x ⊞ of_ratio (δ ⊕ η)
unfolding of_ratio ◌⊕◌ ◌⊞◌
gathered x δ η = omega arith

pub chained : {x y z : Frac} {δ η : Ratio} → Upto x y η → Upto y z δ → Upto x z (δ ⊕ η)
chained {z = z} {δ = δ} {η = η} h k = record { up = ⊑_trans h.up (⊑_trans (⊞-mono k.up (⊑_refl (of_ratio η))) (gathered z δ η)) }

-- at most δ apart
pub record Apart (x y : Frac) (δ : Ratio) : Type 0 where
  pub above : Upto x y δ
  pub below : Upto y x δ

-- between -M and M
pub record Bounded (M : ℕ) (x : Frac) : Type 0 where
  pub least : neg x ⊑ of_ratio (whole M)
  pub most : x ⊑ of_ratio (whole M)

-- arguments within M and N that move by at most ε move `op` by at most S ε
pub record Lipschitz (op : Frac → Frac → Frac) (S : ℕ → ℕ → ℕ) : Type 0 where
  pub moves : (M N : ℕ) {p q r s : Frac} {ε : Ratio} → Bounded M p → Bounded N s → Apart p r ε → Apart q s ε → Upto (op p q) (op r s) (whole (S M N) ⊗ ε)

-- Sums, differences, the smaller of two

before : (y z : Frac) (δ : Ratio) → y ⊞ of_ratio δ ⊞ z ⊑ y ⊞ z ⊞ of_ratio δ
unfolding of_ratio ◌⊞◌
before y z δ = omega arith

after : (y z : Frac) (δ : Ratio) → z ⊞ (y ⊞ of_ratio δ) ⊑ z ⊞ y ⊞ of_ratio δ
unfolding of_ratio ◌⊞◌
after y z δ = omega arith

twice : (ε : Ratio) → ε ⊕ ε ≼ whole 2 ⊗ ε
unfolding whole ◌⊕◌ ◌⊗◌
twice ε = omega arith

upto_sum : {x y u v : Frac} {ε : Ratio} → Upto x y ε → Upto u v ε → Upto (x ⊞ u) (y ⊞ v) (whole 2 ⊗ ε)
upto_sum {x} {y} {u} {v} {ε} h k =
    wider (twice ε)
    (chained
    (record { up = ⊑_trans (⊞-mono h.up (⊑_refl u)) (before y u ε) })
    (record { up = ⊑_trans (⊞-mono (⊑_refl y) k.up) (after v y ε) }))

pub sum_lipschitz : Lipschitz ◌⊞◌ (λ M N. 2)
sum_lipschitz = record { moves = λ M N v w h k. upto_sum h.above k.above }

pub difference_lipschitz : Lipschitz ◌⊟◌ (λ M N. 2)
unfolding ◌⊟◌
difference_lipschitz = record { moves = λ M N v w h k. upto_sum h.above (record { up = neg_moves _ _ _ k.below.up }) }

pub upto_smaller : {x y z : Frac} {δ : Ratio} → Upto z x δ → Upto z y δ → Upto z (smaller x y) δ
upto_smaller {x} {y} {z} {δ} h k = smaller_case (λ w. Upto z w δ) x y (λ l. h) (λ l. k)

pub smaller_lipschitz : Lipschitz smaller (λ M N. 1)
smaller_lipschitz =
    record {
      moves = λ M N v w h k.
          wider (from≼ (one_times _))
          (upto_smaller (record { up = ⊑_trans (smaller_left _ _) h.above.up }) (record { up = ⊑_trans (smaller_right _ _) k.above.up }));
    }

-- Products

-- z d ≤ w e, for z = u - v between -w and w, and d = p - q between -e and e
product_core : (u v w p q e : ℕ) → u ≤ w + v → v ≤ w + u → p ≤ q + e → q ≤ p + e → u * p + v * q ≤ u * q + v * p + w * e
product_core u v w p q e a b c d = omega (arith, rearrange u (w + v) q (p + e) a d, rearrange v (w + u) p (q + e) b c)

over_one_denominator : (A B C D M k c d e n : ℕ) → C * (e * n) + D * (d * n) ≤ A * (d * n) + B * (e * n) + M * c * (k * (d * e))
    → C * (c * e * (1 * n)) + (D * (1 * n) + 0 * (c * e)) * (c * d) ≤ (A * (1 * n) + M * k * (c * e)) * (c * d) + B * (c * e * (1 * n))
over_one_denominator A B C D M k c d e n h = omega (arith, mul-le-mul_right c h)

pub upto_times : {M : ℕ} {z x y : Frac} {δ : Ratio} → Bounded M z → Apart x y δ → Upto (z ⊠ x) (z ⊠ y) (whole M ⊗ δ)
unfolding whole of_ratio neg ◌⊗◌ ◌⊞◌ ◌⊠◌
upto_times {M} {z} {x} {y} {δ} b h =
    let p : ℕ = x.plus * (y.den * δ.den) + y.minus * (x.den * δ.den) in
    let q : ℕ = y.plus * (x.den * δ.den) + x.minus * (y.den * δ.den) in
    let k = product_core z.plus z.minus (M * z.den) p q (δ.num * (x.den * y.den)) (omega arith) (omega arith) (omega arith) (omega arith) in
    record { up = record { cross = over_one_denominator _ _ _ _ M δ.num z.den x.den y.den δ.den (omega (arith, k)) } }

turned : (x y z : Frac) {δ : Ratio} → Upto (z ⊠ x) (z ⊠ y) δ → Upto (x ⊠ z) (y ⊠ z) δ
turned x y z h = record { up = ⊑_trans (⊠-comm x z) (⊑_trans h.up (⊞-mono (⊠-comm z y) (⊑_refl _))) }

pub product_lipschitz : Lipschitz ◌⊠◌ (λ M N. N + M)
product_lipschitz = record { moves = λ M N v w h k. wider (to≼ (together N M _)) (chained (upto_times v k) (turned _ _ _ (upto_times w h))) }

-- 1/x, for R x ≥ 1

pub record Beyond (R : ℕ) (x : Frac) : Type 0 where
  pub beyond : one_f ⊑ of_ratio (whole R) ⊠ x

pub beyond_mono : {R : ℕ} {x y : Frac} → Beyond R x → x ⊑ y → Beyond R y
beyond_mono h l = record { beyond = ⊑_trans h.beyond (scale_mono (signed_above (whole _)) l) }

pub beyond_positive : {R : ℕ} {x : Frac} → Beyond R x → Positive x
unfolding whole of_ratio one_f ◌⊠◌
beyond_positive {R} {x} h = record { above = go (dec_le x.plus x.minus) }
  where
    go : Dec (x.plus ≤ x.minus) → x.minus < x.plus
    go (yes l) = absurd (omega (arith, h.beyond.cross, x.positive, mul-le-mul_right R l))
    go (no l) = omega arith

pub beyond_least : {R : ℕ} {x : Frac} → Beyond R x → x.den ≤ R * (x.plus - x.minus)
unfolding whole of_ratio one_f ◌⊠◌
beyond_least {R} {x} h =
    let e : x.plus - x.minus + x.minus ≡ x.plus = omega (arith, (beyond_positive h).above) in
    omega (arith, h.beyond.cross, ap (λ i. R * i) e)

pub inverse_bounded : {R : ℕ} {x : Frac} → Beyond R x → (p : Positive x) → Bounded R (inverse x p)
unfolding whole of_ratio neg inverse
inverse_bounded h p = record { least = omega arith; most = omega (arith, beyond_least h) }

-- i/d for x, j/e for y
inverse_core : (R i d j e n k : ℕ) → d ≤ R * i → e ≤ R * j → j * d * n ≤ i * e * n + k * d * e → d * (j * (1 * n)) ≤ (e * (1 * n) + R * R * k * j) * i
inverse_core R i d j e n k a b h = omega (arith, h, mul-le-mul_right k (mul-le-mul a b))

pub inverse_upto : {R : ℕ} {x y : Frac} {δ : Ratio} → Beyond R x → Beyond R y → Upto y x δ → (p : Positive x) (q : Positive y)
    → Upto (inverse x p) (inverse y q) (whole (R * R) ⊗ δ)
unfolding whole of_ratio inverse ◌⊗◌ ◌⊞◌
inverse_upto {R} {x} {y} {δ} h k m p q =
    let e : x.plus - x.minus + x.minus ≡ x.plus = omega (arith, p.above) in
    let f : y.plus - y.minus + y.minus ≡ y.plus = omega (arith, q.above) in
    let moved : (y.plus - y.minus) * x.den * δ.den ≤ (x.plus - x.minus) * y.den * δ.den + δ.num * x.den * y.den
    = omega (arith, m.up.cross, ap (λ i. i * (y.den * δ.den)) e, ap (λ i. i * (x.den * δ.den)) f) in
    record { up = omega (arith, inverse_core R _ x.den _ y.den δ.den δ.num (beyond_least h) (beyond_least k) moved) }
