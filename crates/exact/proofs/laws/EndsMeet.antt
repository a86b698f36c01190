-- The M-th lower end of ln or e^ at a signed fraction s lies below the N-th upper end at t, wherever s ≤ t and both are there:
-- `ln_below` and `exp_below`. Assumes nothing.
use Rattle.std.specs.Prelude.{ℕ, suc, ◌+◌, ◌*◌, ◌-◌, ◌≤◌, ◌≡◌}
use Rattle.std.proofs.Common.{ap, mul-le-mul_right, arith}
use Rattle.std.proofs.Math.Option.{Option, none, some, map}
use Rattle.std.proofs.Math.Decide.{dec_le}
use Rattle.exact.specs.Fraction.{◌⊞◌, Ratio, ◌≼◌, Above0, whole, ◌⊕◌, ◌⊖◌, recip, power, sum, ◌⊗◌, Frac, ◌⊑◌, Positive, zero_f, neg, of_ratio, magnitude, one_f}
use Rattle.exact.specs.Series.{factorial, exp_lower, exp_upper, exp_term}
use Rattle.exact.specs.LnExp.{exp_lower_at, exp_upper_at, exp_upper_of, ln_lower_at, ln_upper_at, one_over_of}
use Rattle.exact.specs.laws.Decide.{dec_f, dec_above0, decided, decided₂}
use Rattle.exact.specs.laws.Divisors.{magnitude_above, one_magnitude, one_recip}
use Rattle.exact.proofs.laws.Exp.{exp_lower_upper, exp_lower_mono}
use Rattle.exact.proofs.laws.Frac.{⊑_trans, neg_anti}
use Rattle.exact.proofs.laws.Ln.{ln_lower_upper, ln_lower_mono}
use Rattle.exact.proofs.laws.Ratio.{≼_trans, recip_anti}

-- where both are there, the first is at most the second
abbrev pub Below : Option Frac → Option Frac → Type 0
Below none y = Unit {0}
Below (some a) none = Unit {0}
Below (some a) (some b) = a ⊑ b

-- Fractions as signed fractions

abbrev pub signed : Option Ratio → Option Frac
signed x = map of_ratio x

pub of_ratio_mono : {x y : Ratio} → x ≼ y → of_ratio x ⊑ of_ratio y
unfolding of_ratio
of_ratio_mono h = omega arith

pub neg_below : (x y : Ratio) → neg (of_ratio x) ⊑ of_ratio y
unfolding of_ratio neg
neg_below x y = omega arith

pub magnitude_mono : {x y : Frac} → x ⊑ y → magnitude x ≼ magnitude y
unfolding magnitude
magnitude_mono {x} {y} h = record { cross = go (dec_le x.minus x.plus) }
  where
    core : (i j : ℕ) → i + x.minus ≡ x.plus → y.plus ≤ j + y.minus → i * y.den ≤ j * x.den
    core i j e f = omega (arith, ap (λ m. m * y.den) e, mul-le-mul_right x.den f, h.cross)

    go : Dec (x.minus ≤ x.plus) → (x.plus - x.minus) * y.den ≤ (y.plus - y.minus) * x.den
    go (yes l) = core (x.plus - x.minus) (y.plus - y.minus) (omega arith) (omega arith)
    go (no l) = let z : x.plus - x.minus ≡ 0 = omega arith in rw z (omega arith)

-- t ≤ s + δ, from 0 up
pub above_moves : (s t : Frac) (δ : Ratio) → zero_f ⊑ s → zero_f ⊑ t → t ⊑ s ⊞ of_ratio δ → magnitude t ≼ magnitude s ⊕ δ
unfolding zero_f magnitude of_ratio ◌⊕◌ ◌⊞◌
above_moves s t δ h k l =
    let e : (s.plus - s.minus) + s.minus ≡ s.plus = omega arith in
    let f : (t.plus - t.minus) + t.minus ≡ t.plus = omega arith in
    omega (arith, l.cross, ap (λ i. i * (t.den * δ.den)) e, ap (λ i. i * (s.den * δ.den)) f)

pub positive_zero : {x : Frac} → Positive x → zero_f ⊑ x
unfolding zero_f
positive_zero h = omega arith

-- ln

pub ln_below : (s t : Frac) (h : Positive s) (k : Positive t) → s ⊑ t → (m n : ℕ) → ln_lower_at s h m ⊑ ln_upper_at t k n
unfolding ln_lower_at ln_upper_at
ln_below s t h k l m n =
    decided₂ ◌⊑◌ (dec_f one_f s) (dec_f one_f t)
    (λ i j. of_ratio_mono (≼_trans (ln_lower_mono _ _ (one_magnitude i) (magnitude_mono l) m) (ln_lower_upper (magnitude t) (one_magnitude j) m n)))
    (λ i j. absurd (j (⊑_trans i l)))
    (λ i j. neg_below _ _)
    λ i j.
    neg_anti (of_ratio_mono
    (≼_trans
    (ln_lower_mono _ _ (one_recip t (magnitude_above t k) j) (recip_anti (magnitude_above s h) (magnitude_above t k) (magnitude_mono l)) n)
    (ln_lower_upper _ (one_recip s (magnitude_above s h) i) n m)))

-- e^

pub first_term : (y : Ratio) → whole 1 ≼ exp_lower y 1
unfolding exp_lower exp_term sum power factorial whole ◌⊕◌ ◌⊗◌
first_term y = omega arith

pub one_below_exp : (y : Ratio) (n : ℕ) (h : Above0 (whole (suc n) ⊖ y)) → whole 1 ≼ exp_upper y n h
one_below_exp y n h = ≼_trans (first_term y) (exp_lower_upper y 1 n h)

pub recip_below_one : (x : Ratio) (h : Above0 x) → whole 1 ≼ x → recip x h ≼ whole 1
unfolding whole recip
recip_below_one x h l = omega arith

-- the same of fractions from 0 up
abbrev BelowOf : Option Ratio → Option Ratio → Type 0
BelowOf x y = Below (signed x) (signed y)

-- 0 ≤ s ≤ t
above_above : {x y : Ratio} → x ≼ y → (m n : ℕ) → Below (some (of_ratio (exp_lower x m))) (signed (exp_upper_of y n))
unfolding exp_upper_of
above_above {x} l m n =
    decided (λ o. BelowOf (some (exp_lower x m)) o) (dec_above0 _) (λ h. of_ratio_mono (≼_trans (exp_lower_mono l m) (exp_lower_upper _ m n h))) (λ h. tt)

-- s < 0 ≤ t: 1 lies between
recip_upper : (x y : Ratio) (n : ℕ) → whole 1 ≼ x → BelowOf (one_over_of (some x)) (exp_upper_of y n)
unfolding exp_upper_of one_over_of
recip_upper x y n l =
    decided₂ BelowOf (dec_above0 x) (dec_above0 _) (λ h k. of_ratio_mono (≼_trans (recip_below_one x h l) (one_below_exp y n k))) (λ h k. tt) (λ h k. tt) (λ h k. tt)

below_above : (x y : Ratio) (m n : ℕ) → BelowOf (one_over_of (exp_upper_of x m)) (exp_upper_of y n)
unfolding exp_upper_of one_over_of
below_above x y m n =
    decided (λ o. BelowOf (one_over_of o) (exp_upper_of y n)) (dec_above0 _) (λ h. recip_upper (exp_upper x m h) y n (one_below_exp x m h)) (λ h. tt)

-- s ≤ t < 0
recip_recip : (x y : Ratio) → y ≼ x → BelowOf (one_over_of (some x)) (one_over_of (some y))
unfolding one_over_of
recip_recip x y l = decided₂ BelowOf (dec_above0 x) (dec_above0 y) (λ h k. of_ratio_mono (recip_anti k h l)) (λ h k. tt) (λ h k. tt) (λ h k. tt)

below_below : {x y : Ratio} → y ≼ x → (m n : ℕ) → BelowOf (one_over_of (exp_upper_of x m)) (one_over_of (some (exp_lower y n)))
unfolding exp_upper_of one_over_of
below_below {x} {y} l m n =
    decided (λ o. BelowOf (one_over_of o) (one_over_of (some (exp_lower y n)))) (dec_above0 _)
    (λ h. recip_recip (exp_upper x m h) (exp_lower y n) (≼_trans (exp_lower_mono l n) (exp_lower_upper x n m h))) (λ h. tt)

pub exp_below : (s t : Frac) → s ⊑ t → (m n : ℕ) → Below (exp_lower_at s m) (exp_upper_at t n)
unfolding exp_lower_at exp_upper_at
exp_below s t l m n =
    decided₂ BelowOf (dec_f zero_f s) (dec_f zero_f t)
    (λ i j. above_above (magnitude_mono l) m n)
    (λ i j. absurd (j (⊑_trans i l)))
    (λ i j. below_above _ _ m n)
    (λ i j. below_below (magnitude_mono (neg_anti l)) m n)
