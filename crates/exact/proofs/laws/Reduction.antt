-- What a program that reduces the range of e^ needs: bounds of e^a and e^b multiply to bounds of e^(a+b), for every N from
-- some T on, and the remainder of the N-th bracket is 2^-k beside it, k terms past twice the argument.
-- `lower_from`, `upper_from`, `lower_from_negative` and `upper_from_negative` give the ends that `exp_inside` asks for.
-- Assumes nothing.
use Rattle.exact.specs.laws.Reduction.{Most, Least, LowerEnd, UpperEnd}
use Rattle.std.specs.Prelude.{ℕ, zero, suc, ◌+◌, ◌*◌, ◌≤◌, ◌≡◌, refl}
use Rattle.std.proofs.Common.{subst, mul-le-mul_right, arith}
use Rattle.std.proofs.Math.Option.{Option, some}
use Rattle.std.proofs.Math.Nat.{le_dest}
use Rattle.exact.specs.Fraction.{Ratio, ◌≼◌, ◌≈◌, Above0, whole, ◌⊕◌, ◌⊗◌, ◌⊖◌, recip, power, sum, Frac, ◌⊑◌, zero_f, neg, of_ratio, magnitude}
use Rattle.exact.specs.Series.{factorial, exp_term, exp_lower, exp_upper, one_over}
use Rattle.exact.specs.LnExp.{exp_upper_of, one_over_of, exp_lower_at, exp_upper_at}
use Rattle.exact.proofs.laws.Addition.{sum_below_product, product_below_sum}
use Rattle.exact.specs.laws.Decide.{dec_f, dec_above0, decided}
use Rattle.exact.proofs.laws.EndsMeet.{signed, of_ratio_mono, first_term, one_below_exp}
use Rattle.exact.proofs.laws.Exp.{exp_lower_grows, exp_lower_upper, exp_lower_mono}
use Rattle.exact.proofs.laws.Ratio.{nothing_times, above_one, ≼_refl, ≼_trans, to≼, from≼, ⊕-mono, ⊗_mono}
use Rattle.exact.proofs.laws.Sums.{after, after_is}
use Rattle.exact.specs.laws.Width.{half}
use Rattle.exact.proofs.laws.Width.{exp_width}

-- Upper bounds

-- any upper end
pub most_upper : (y : Ratio) (n : ℕ) (h : Above0 (whole (suc n) ⊖ y)) → Most y (exp_upper y n h)
most_upper y n h = record { all = λ m. exp_lower_upper y m n h }

pub most_mono : {x y U W : Ratio} → x ≼ y → Most y U → U ≼ W → Most x W
most_mono l h k = record { all = λ n. ≼_trans (exp_lower_mono l n) (≼_trans (h.all n) k) }

pub most_sum : {a b U W : Ratio} → Most a U → Most b W → Most (a ⊕ b) (U ⊗ W)
most_sum {a} {b} h k = record { all = λ n. ≼_trans (sum_below_product a b n) (⊗_mono (h.all n) (k.all n)) }

-- e^0 = 1

zero_first : exp_lower (whole 0) 0 ≼ whole 1
unfolding exp_lower sum whole
zero_first = omega arith

zero_second : exp_lower (whole 0) 1 ≼ whole 1
unfolding exp_lower sum exp_term power factorial whole ◌⊕◌ ◌⊗◌
zero_second = omega arith

zero_next : (P F S : Ratio) → S ≼ whole 1 → S ⊕ whole 0 ⊗ P ⊗ F ≼ whole 1
unfolding whole ◌⊕◌ ◌⊗◌
zero_next P F S h = omega (arith, mul-le-mul_right (P.den * F.den) h.cross)

zero_step : (n : ℕ) → exp_lower (whole 0) (suc n) ≼ whole 1 → exp_lower (whole 0) (suc (suc n)) ≼ whole 1
unfolding exp_lower sum exp_term power
zero_step n h = zero_next _ _ _ h

pub most_zero : Most (whole 0) (whole 1)
most_zero = record { all = go }
  where
    go : (n : ℕ) → exp_lower (whole 0) n ≼ whole 1
    go zero = zero_first
    go (suc zero) = zero_second
    go (suc (suc n)) = zero_step n (go (suc n))

-- e^(k a) ≤ U^k

pub once_more : (k : ℕ) (a : Ratio) → whole (suc k) ⊗ a ≈ a ⊕ whole k ⊗ a
unfolding whole ◌⊕◌ ◌⊗◌
once_more k a = omega arith

pub most_times : {a U : Ratio} → Most a U → (k : ℕ) → Most (whole k ⊗ a) (power U k)
unfolding power
most_times {a} h zero = most_mono (nothing_times a) most_zero (≼_refl (whole 1))
most_times {a} h (suc k) = most_mono (to≼ (once_more k a)) (most_sum h (most_times h k)) (≼_refl _)

-- Lower bounds

-- more terms, a larger argument, a smaller bound
pub least_mono : {x y L K : Ratio} {t u : ℕ} → t ≤ u → x ≼ y → Least t x L → K ≼ L → Least u y K
least_mono {x} {y} {t = t} {u = u} m l h k =
    record { begin = ≼_trans k (≼_trans h.begin (≼_trans (exp_lower_grows x t u m) (exp_lower_mono l u))) }

pub least_all : {y L : Ratio} {t : ℕ} → Least t y L → (n : ℕ) → t ≤ n → L ≼ exp_lower y n
least_all {y} {t = t} h n l = ≼_trans h.begin (exp_lower_grows y t n l)

pub least_sum : {a b K L : Ratio} {s t : ℕ} → Least s a K → Least t b L → Least (s + t) (a ⊕ b) (K ⊗ L)
least_sum {a} {b} {s = s} {t = t} h k =
    record { begin = ≼_trans (⊗_mono h.begin k.begin) (product_below_sum a b s t (s + t) (omega arith)) }

pub least_one : (y : Ratio) → Least 1 y (whole 1)
least_one y = record { begin = first_term y }

-- L^k ≤ e^(k a)
pub least_times : {a L : Ratio} {t : ℕ} → Least t a L → (k : ℕ) → Least (suc (k * t)) (whole k ⊗ a) (power L k)
unfolding power
least_times {a} h zero = least_mono (omega arith) (≼_refl _) (least_one (whole 0 ⊗ a)) (≼_refl _)
least_times {a} {t = t} h (suc k) = least_mono {t = t + suc (k * t)} (omega arith) (from≼ (once_more k a)) (least_sum h (least_times h k)) (≼_refl _)

-- The remainder

-- the N-th upper end is there
pub room : (y : Ratio) (c n : ℕ) → y ≼ whole c → c ≤ n → Above0 (whole (suc n) ⊖ y)
unfolding whole ◌⊖◌
room y c n h l = omega (arith, h.cross, y.positive, mul-le-mul_right y.den l)

-- S + S r/2 · 2 = S (1 + r)
doubled : (S r : Ratio) → S ⊕ S ⊗ (half ⊗ r) ⊗ whole 2 ≈ S ⊗ (whole 1 ⊕ r)
unfolding half one_over whole ◌⊕◌ ◌⊗◌
doubled S r = omega arith

near : (y : Ratio) (c e k : ℕ) → y ≼ whole c → 2 * c ≤ e → (g : Above0 (whole (suc (after (suc e) k)) ⊖ y))
    → exp_upper y (after (suc e) k) g ≼ exp_lower y (after (suc e) k) ⊗ (whole 1 ⊕ power half k)
unfolding exp_upper power
near y c e k b m g = ≼_trans (⊕-mono (≼_refl _) (exp_width y c e b m k g)) (to≼ (doubled _ (power half k)))

-- for y ≤ c and N > 2c + k, the N-th upper end is at most 1 + 2^-k times the lower
pub upper_near : (y : Ratio) (c k n : ℕ) → y ≼ whole c → suc (2 * c + k) ≤ n → (h : Above0 (whole (suc n) ⊖ y))
    → exp_upper y n h ≼ exp_lower y n ⊗ (whole 1 ⊕ power half k)
upper_near y c k n b l h =
    let d : (i : ℕ) × (suc (2 * c + k) + i ≡ n) = le_dest l in
    let e : after (suc (2 * c + d.0)) k ≡ n = omega (arith, after_is (suc (2 * c + d.0)) k, d.1) in
    subst (λ i. (g : Above0 (whole (suc i) ⊖ y)) → exp_upper y i g ≼ exp_lower y i ⊗ (whole 1 ⊕ power half k)) e
    (near y c (2 * c + d.0) k b (omega arith)) h

-- so that an upper bound of e^y is one of the N-th upper end
pub upper_most : {y U : Ratio} (c k n : ℕ) → Most y U → y ≼ whole c → suc (2 * c + k) ≤ n → (h : Above0 (whole (suc n) ⊖ y))
    → exp_upper y n h ≼ U ⊗ (whole 1 ⊕ power half k)
upper_most {y} c k n m b l h = ≼_trans (upper_near y c k n b l h) (⊗_mono (m.all n) (≼_refl _))

-- The ends of the N-th bracket at a signed fraction, with a bound

below_recip : (x K : Ratio) (p : Above0 x) → K ⊗ x ≼ whole 1 → K ≼ recip x p
unfolding whole recip ◌⊗◌
below_recip x K p h = omega arith

above_recip : (x K : Ratio) (p : Above0 x) → whole 1 ≼ K ⊗ x → recip x p ≼ K
unfolding whole recip ◌⊗◌
above_recip x K p h = omega arith

-- y ≥ 0

pub lower_from : {L : Ratio} {t : ℕ} (y : Frac) → zero_f ⊑ y → Least t (magnitude y) L → (n : ℕ) → t ≤ n → LowerEnd (exp_lower_at y n) L
unfolding exp_lower_at
lower_from {L} y z h n l =
    decided (λ o. LowerEnd (signed o) L) (dec_f zero_f y)
    (λ i. record { end = of_ratio (exp_lower (magnitude y) n); is = refl; bound = of_ratio_mono (least_all h n l) }) (λ i. absurd (i z))

pub upper_if : (y : Ratio) {U : Ratio} (n : ℕ) → Above0 (whole (suc n) ⊖ y) → ((g : Above0 (whole (suc n) ⊖ y)) → exp_upper y n g ≼ U)
    → UpperEnd (signed (exp_upper_of y n)) U
unfolding exp_upper_of
upper_if y {U} n r h =
    decided (λ o. UpperEnd (signed o) U) (dec_above0 _)
    (λ g. record { end = of_ratio (exp_upper y n g); is = refl; bound = of_ratio_mono (h g) }) (λ g. absurd (g r))

pub upper_from : {U : Ratio} (y : Frac) → zero_f ⊑ y → Most (magnitude y) U → (c k n : ℕ) → magnitude y ≼ whole c → suc (2 * c + k) ≤ n
    → UpperEnd (exp_upper_at y n) (U ⊗ (whole 1 ⊕ power half k))
unfolding exp_upper_at
upper_from {U} y z h c k n b l =
    decided (λ o. UpperEnd (signed o) (U ⊗ (whole 1 ⊕ power half k))) (dec_f zero_f y)
    (λ i. upper_if (magnitude y) n (room (magnitude y) c n b (omega arith)) (upper_most c k n h b l)) (λ i. absurd (i z))

-- y < 0

lower_one_over : (x L : Ratio) → whole 1 ≼ x → L ⊗ x ≼ whole 1 → LowerEnd (signed (one_over_of (some x))) L
unfolding one_over_of
lower_one_over x L o h =
    decided (λ o. LowerEnd (signed o) L) (dec_above0 x)
    (λ p. record { end = of_ratio (recip x p); is = refl; bound = of_ratio_mono (below_recip x L p h) }) (λ p. absurd (p (above_one o)))

pub upper_one_over : (x U : Ratio) → Above0 x → whole 1 ≼ U ⊗ x → UpperEnd (signed (one_over_of (some x))) U
unfolding one_over_of
upper_one_over x U o h =
    decided (λ o. UpperEnd (signed o) U) (dec_above0 x)
    (λ p. record { end = of_ratio (recip x p); is = refl; bound = of_ratio_mono (above_recip x U p h) }) (λ p. absurd (p o))

pub lower_if : (y L : Ratio) (n : ℕ) → Above0 (whole (suc n) ⊖ y) → ((g : Above0 (whole (suc n) ⊖ y)) → L ⊗ exp_upper y n g ≼ whole 1)
    → LowerEnd (signed (one_over_of (exp_upper_of y n))) L
unfolding exp_upper_of
lower_if y L n r h =
    decided (λ o. LowerEnd (signed (one_over_of o)) L) (dec_above0 _)
    (λ g. lower_one_over (exp_upper y n g) L (one_below_exp y n g) (h g)) (λ g. absurd (g r))

pub lower_from_negative : {U : Ratio} (y : Frac) → ¬ (zero_f ⊑ y) → Most (magnitude (neg y)) U
    → (c k n : ℕ) → magnitude (neg y) ≼ whole c → suc (2 * c + k) ≤ n
    → (L : Ratio) → L ⊗ (U ⊗ (whole 1 ⊕ power half k)) ≼ whole 1 → LowerEnd (exp_lower_at y n) L
unfolding exp_lower_at
lower_from_negative y z h c k n b l L m =
    decided (λ o. LowerEnd (signed o) L) (dec_f zero_f y) (λ i. absurd (z i))
    λ i.
    lower_if (magnitude (neg y)) L n (room (magnitude (neg y)) c n b (omega arith))
    λ g. ≼_trans (⊗_mono (≼_refl L) (upper_most c k n h b l g)) m

pub upper_from_negative : {L : Ratio} {t : ℕ} (y : Frac) → ¬ (zero_f ⊑ y) → Least t (magnitude (neg y)) L → (n : ℕ) → 1 ≤ n → t ≤ n
    → (U : Ratio) → whole 1 ≼ U ⊗ L → UpperEnd (exp_upper_at y n) U
unfolding exp_upper_at
upper_from_negative y z h n o l U m =
    decided (λ o. UpperEnd (signed o) U) (dec_f zero_f y) (λ i. absurd (z i))
    λ i.
    upper_one_over (exp_lower (magnitude (neg y)) n) U (above_one (least_all (least_one (magnitude (neg y))) n o))
    (≼_trans m (⊗_mono (≼_refl U) (least_all h n l)))
