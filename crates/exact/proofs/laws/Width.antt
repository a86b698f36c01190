-- How narrow the brackets are at a point: what the upper end adds is small beside 9^N for ln, and beside 2^k of the lower end
-- for e^, k terms past twice the argument. Assumes nothing.
use Rattle.exact.specs.laws.Width.{half}
use Rattle.std.specs.Prelude.{ℕ, zero, suc, ◌*◌, ◌≤◌, ◌<◌, ◌≡◌, refl}
use Rattle.std.proofs.Common.{ap, mul-le-mul_right, arith}
use Rattle.exact.specs.Fraction.{Ratio, ◌≼◌, ◌≈◌, Above0, whole, ◌⊕◌, ◌⊗◌, ◌⊖◌, recip, power, sum}
use Rattle.exact.specs.Series.{exp_term, exp_lower, exp_tail, one_over, even, odd, ln_tail, gap, series_lower, series_upper, exponent, fraction, argument, third}
use Rattle.exact.specs.LnExp.{ln2_lower, ln2_upper, ln_lower, ln_upper}
use Rattle.exact.specs.laws.Divisors.{gap_third}
use Rattle.exact.proofs.laws.Exp.{term_suc}
use Rattle.exact.proofs.laws.Ln.{argument_below_third}
use Rattle.exact.proofs.laws.LnSeries.{gap_anti}
use Rattle.exact.specs.laws.Positive.{odd_pos}
use Rattle.exact.proofs.laws.Ratio.{unit_right, ≼_refl, ≼_trans, to≼, ⊕-mono, ⊕-comm, ⊗_mono, ⊕-upper, distrib, recip_anti, power_mono}
use Rattle.exact.proofs.laws.Sums.{after, sum_grows}

-- e^

-- y/(n + 1) ≤ 1/2
at_most_half : (y : Ratio) (c n : ℕ) → y ≼ whole c → 2 * c ≤ suc n → (z : 0 < suc n) → y ⊗ record { num = 1; den = suc n; positive = z } ≼ half
unfolding half one_over whole ◌⊗◌
at_most_half y c n h k z = omega (arith, h.cross, mul-le-mul_right y.den k)

halves : (y : Ratio) (c n : ℕ) → y ≼ whole c → 2 * c ≤ suc n → exp_term y (suc n) ≼ exp_term y n ⊗ half
halves y c n h k = ≼_trans (to≼ (term_suc y n)) (⊗_mono (≼_refl (exp_term y n)) (at_most_half y c n h k _))

after_above : (d k c : ℕ) → 2 * c ≤ d → 2 * c ≤ after d k
after_above d zero c h = h
after_above d (suc k) c h = omega (arith, after_above d k c h)

swap : (x p h : Ratio) → x ⊗ p ⊗ h ≈ x ⊗ (h ⊗ p)
unfolding ◌⊗◌
swap x p h = omega arith

terms_halve : (y : Ratio) (c d : ℕ) → y ≼ whole c → 2 * c ≤ d → (k : ℕ) → exp_term y (after d k) ≼ exp_term y d ⊗ power half k
unfolding power
terms_halve y c d h l zero = unit_right (exp_term y d)
terms_halve y c d h l (suc k) =
    ≼_trans (halves y c (after d k) h (omega (arith, after_above d k c l)))
    (≼_trans (⊗_mono (terms_halve y c d h l k) (≼_refl half)) (to≼ (swap (exp_term y d) (power half k) half)))

-- (n + 1)/(n + 1 - y) ≤ 2
factor_two : (y : Ratio) (c n : ℕ) → y ≼ whole c → 2 * c ≤ n → (h : Above0 (whole (suc n) ⊖ y)) → whole (suc n) ⊗ recip (whole (suc n) ⊖ y) h ≼ whole 2
unfolding whole recip ◌⊖◌ ◌⊗◌
factor_two y c n l k h = omega (arith, l.cross, mul-le-mul_right y.den k)

term_below_sum : (y : Ratio) (d k : ℕ) → exp_term y d ≼ exp_lower y (after (suc d) k)
unfolding exp_lower sum
term_below_sum y d k = ≼_trans (≼_trans (⊕-upper _ _) (to≼ (⊕-comm (exp_term y d) (sum (exp_term y) d)))) (sum_grows (exp_term y) (suc d) k)

pub after_suc : (d k : ℕ) → after (suc d) k ≡ suc (after d k)
after_suc d zero = refl
after_suc d (suc k) = ap suc (after_suc d k)

-- the relative width of the N-th bracket of e^y, N = d + 1 + k: at most 2 · 2^-(k+1)
pub exp_width : (y : Ratio) (c d : ℕ) → y ≼ whole c → 2 * c ≤ d → (k : ℕ) (h : Above0 (whole (suc (after (suc d) k)) ⊖ y))
    → exp_tail y (after (suc d) k) h ≼ exp_lower y (after (suc d) k) ⊗ power half (suc k) ⊗ whole 2
unfolding exp_tail
exp_width y c d l m k h =
    ⊗_mono (≼_trans (rw after_suc (terms_halve y c d l m (suc k))) (⊗_mono (term_below_sum y d k) (≼_refl (power half (suc k)))))
    (factor_two y c (after (suc d) k) l (omega (arith, after_above (suc d) k c (omega arith))) h)

-- ln

unfoldable pub ninth : Ratio
ninth = one_over 9 (omega arith)

two_thirds_lem : (N : Ratio) → third ⊗ (third ⊗ (third ⊗ N)) ≼ third ⊗ (ninth ⊗ N)
unfolding third ninth one_over ◌⊗◌
two_thirds_lem N = omega arith

-- (1/3)^(2n+1) ≤ 1/3 · (1/9)^n
third_powers : (n : ℕ) → power third (odd n) ≼ third ⊗ power ninth n
unfolding even power
third_powers zero = ≼_refl _
third_powers (suc n) = ≼_trans (⊗_mono (≼_refl third) (⊗_mono (≼_refl third) (third_powers n))) (two_thirds_lem (power ninth n))

nine_eighths : Ratio
nine_eighths = record { num = 9; den = 8; positive = omega arith }

gap_at_third : recip (gap third) gap_third ≼ nine_eighths
unfolding gap third one_over nine_eighths whole recip ◌⊖◌ ◌⊗◌
gap_at_third = omega arith

-- 1/(1 - u²) ≤ 9/8
gap_nine_eighths : (u : Ratio) → u ≼ third → (h : Above0 (gap u)) → recip (gap u) h ≼ nine_eighths
gap_nine_eighths u l h = ≼_trans (recip_anti gap_third h (gap_anti l gap_third)) gap_at_third

at_most_one : (n : ℕ) (z : 0 < n) → one_over n z ≼ whole 1
unfolding one_over whole
at_most_one n z = omega arith

three_eighths : (N : Ratio) → whole 2 ⊗ (third ⊗ N ⊗ (whole 1 ⊗ nine_eighths)) ≼ N
unfolding third one_over nine_eighths whole ◌⊗◌
three_eighths N = omega arith

-- the width of the N-th bracket of ln f: at most 1/9^N
pub series_width : (u : Ratio) → u ≼ third → (h : Above0 (gap u)) (n : ℕ) → series_upper u n h ≼ series_lower u n ⊕ power ninth n
unfolding series_upper series_lower ln_tail
series_width u l h n =
    ≼_trans (to≼ (distrib (whole 2) _ _))
    (⊕-mono (≼_refl _)
    (≼_trans
    (⊗_mono (≼_refl (whole 2))
    (⊗_mono (≼_trans (power_mono l (odd n)) (third_powers n)) (⊗_mono (at_most_one (odd n) (odd_pos n)) (gap_nine_eighths u l h))))
    (three_eighths (power ninth n))))

-- the width of the N-th bracket of ln t: at most (k + 1)/9^N
collect : (k : ℕ) (a b N : Ratio) → whole k ⊗ (a ⊕ N) ⊕ (b ⊕ N) ≈ whole k ⊗ a ⊕ b ⊕ whole (suc k) ⊗ N
unfolding whole ◌⊕◌ ◌⊗◌
collect k a b N = omega arith

pub ln_width : (t : Ratio) (l : whole 1 ≼ t) (n : ℕ) → ln_upper t l n ≼ ln_lower t n ⊕ whole (suc (exponent t)) ⊗ power ninth n
unfolding ln_upper ln_lower ln2_upper ln2_lower
ln_width t l n =
    ≼_trans
    (⊕-mono (⊗_mono (≼_refl (whole (exponent t))) (series_width third (≼_refl third) gap_third n)) (series_width (argument (fraction t)) (argument_below_third t) _ n))
    (to≼ (collect (exponent t) (series_lower third n) (series_lower (argument (fraction t)) n) (power ninth n)))
