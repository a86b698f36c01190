-- The ends of ln t at fractions t ≥ 1, through t = 2^k·f: every lower end is below every upper end, lower ends rise and upper
-- ends fall with N, and both rise with t. Assumes nothing.
use Rattle.std.specs.Prelude.{ℕ, zero, suc, ◌+◌, ◌*◌, ◌-◌, ◌^◌, ◌≤◌, ◌<◌, ◌≡◌, ◌⊎◌}
use Rattle.std.proofs.Common.{ap, mul-pos, mul-le-mul_right, eq-or-lt_of_le, inl, inr, arith}
use Rattle.std.proofs.Math.Nat.{pow-succ', pow-le-pow_right}
use Rattle.std.proofs.Math.Decide.{dec_le}
use Rattle.exact.specs.Fraction.{Ratio, ◌≼◌, whole, ◌⊕◌, ◌⊗◌, ◌⊖◌, recip}
use Rattle.exact.specs.Series.{one_over, series_lower, series_upper, argument, climb, exponent, fraction, third}
use Rattle.exact.specs.LnExp.{ln2_lower, ln2_upper, ln_lower, ln_upper}
use Rattle.exact.specs.laws.Divisors.{gap_third}
use Rattle.exact.proofs.laws.LnSeries.{series_lower_grows, series_upper_falls, series_lower_upper, series_lower_mono, series_upper_mono}
use Rattle.exact.specs.laws.Positive.{two_pow_pos}
use Rattle.exact.proofs.laws.Ratio.{≼_refl, ≼_trans, ⊕-mono, ⊗_mono, ⊕-upper}

pub two_pow_times : (k q : ℕ) → 2 ^ suc k * q ≡ 2 ^ k * (2 * q)
two_pow_times k q = rw pow-succ' (omega arith)

climb_low : (n q p : ℕ) → q ≤ p → 2 ^ climb n q p * q ≤ p
unfolding climb
climb_low zero q p l = omega arith
climb_low (suc n) q p l = go (dec_le (2 * q) p) (climb_low n (2 * q) p)
  where
    go : (d : Dec (2 * q ≤ p)) → (2 * q ≤ p → 2 ^ climb n (2 * q) p * (2 * q) ≤ p)
        → 2 ^ (elim d [ yes h ↦ suc (climb n (2 * q) p) | no h ↦ 0 ]) * q ≤ p
    go (yes h) ih = rw two_pow_times (ih h)
    go (no h) ih = omega arith

climb_high : (n q p : ℕ) → 0 < q → p ≤ n + q → p < 2 ^ suc (climb n q p) * q
unfolding climb
climb_high zero q p z l = omega arith
climb_high (suc n) q p z l = go (dec_le (2 * q) p) (climb_high n (2 * q) p (omega arith) (omega arith))
  where
    go : (d : Dec (2 * q ≤ p)) → p < 2 ^ suc (climb n (2 * q) p) * (2 * q)
        → p < 2 ^ suc (elim d [ yes h ↦ suc (climb n (2 * q) p) | no h ↦ 0 ]) * q
    go (yes h) ih = rw two_pow_times ih
    go (no h) ih = omega arith

-- 2^k ≤ t < 2^(k+1)
pub exponent_low : (t : Ratio) → whole 1 ≼ t → 2 ^ exponent t * t.den ≤ t.num
unfolding exponent whole
exponent_low t l = climb_low t.num t.den t.num (omega arith)

pub exponent_high : (t : Ratio) → t.num < 2 ^ suc (exponent t) * t.den
unfolding exponent
exponent_high t = climb_high t.num t.den t.num t.positive (omega arith)

argument_core : (p q r s a b : ℕ) → a + q ≡ p → r ≤ b + s → p * s ≤ r * q → a * (r + s) ≤ b * (p + q)
argument_core p q r s a b d e l =
    omega (arith, ap (λ i. i * r) d, ap (λ i. i * s) d, mul-le-mul_right p e, mul-le-mul_right q e)

pub argument_mono : {f g : Ratio} → f ≼ g → argument f ≼ argument g
unfolding argument whole recip ◌⊖◌ ◌⊗◌ ◌⊕◌
argument_mono {f} {g} l = go (dec_le f.den f.num)
  where
    go : Dec (f.den ≤ f.num) → argument f ≼ argument g
    go (yes h) =
        let c : (f.num * 1 - 1 * f.den) * (g.num + g.den) ≤ (g.num * 1 - 1 * g.den) * (f.num + f.den)
        = argument_core f.num f.den g.num g.den _ _ (omega arith) (omega arith) l.cross in
        omega (arith, mul-le-mul_right (f.den * g.den) c)
    go (no h) = let z : f.num * 1 - 1 * f.den ≡ 0 = omega arith in rw z (omega arith)

pub argument_two : argument (whole 2) ≼ third
unfolding argument third one_over whole recip ◌⊖◌ ◌⊗◌ ◌⊕◌
argument_two = omega arith

-- The ends

-- every lower end is below every upper end
pub ln_lower_upper : (t : Ratio) (l : whole 1 ≼ t) (m n : ℕ) → ln_lower t m ≼ ln_upper t l n
unfolding ln_lower ln_upper ln2_lower ln2_upper
ln_lower_upper t l m n =
    ⊕-mono (⊗_mono (≼_refl _) (series_lower_upper third m n gap_third)) (series_lower_upper (argument (fraction t)) m n _)

pub ln_lower_grows : (t : Ratio) (m n : ℕ) → m ≤ n → ln_lower t m ≼ ln_lower t n
unfolding ln_lower ln2_lower
ln_lower_grows t m n l = ⊕-mono (⊗_mono (≼_refl _) (series_lower_grows third m n l)) (series_lower_grows (argument (fraction t)) m n l)

pub ln_upper_falls : (t : Ratio) (o : whole 1 ≼ t) (m n : ℕ) → m ≤ n → ln_upper t o n ≼ ln_upper t o m
unfolding ln_upper ln2_upper
ln_upper_falls t o m n l =
    ⊕-mono (⊗_mono (≼_refl _) (series_upper_falls third m n l gap_third)) (series_upper_falls (argument (fraction t)) m n l _)

-- Larger t

pub exponent_mono : (s t : Ratio) → whole 1 ≼ s → s ≼ t → exponent s ≤ exponent t
exponent_mono s t l h = go (dec_le (exponent s) (exponent t))
  where
    never : exponent t < exponent s → ⊥
    never k =
        omega (
          arith,
          s.positive,
          mul-le-mul_right t.den (exponent_low s l),
          mul-le-mul_right s.den (exponent_high t),
          mul-le-mul_right (s.den * t.den) (pow-le-pow_right {n = 2} (omega arith) k),
          h.cross,
        )

    go : Dec (exponent s ≤ exponent t) → exponent s ≤ exponent t
    go (yes k) = k
    go (no k) = absurd (never (omega arith))

pub fraction_mono : (s t : Ratio) → s ≼ t → exponent s ≡ exponent t → fraction s ≼ fraction t
unfolding fraction one_over ◌⊗◌
fraction_mono s t h e = omega (arith, mul-le-mul_right (2 ^ exponent s) h.cross, ap (λ i. t.num * s.den * 2 ^ i) e, ap (λ i. s.num * t.den * 2 ^ i) e)

pub fraction_below_two : (t : Ratio) → fraction t ≼ whole 2
unfolding fraction one_over whole ◌⊗◌
fraction_below_two t = omega (arith, exponent_high t, two_pow_times (exponent t) t.den)

pub argument_below_third : (t : Ratio) → argument (fraction t) ≼ third
argument_below_third t = ≼_trans (argument_mono (fraction_below_two t)) argument_two

pub whole_mono : (j k : ℕ) → j ≤ k → whole j ≼ whole k
unfolding whole
whole_mono j k l = omega arith

one_more : (j : ℕ) (L : Ratio) → whole j ⊗ L ⊕ L ≼ whole (suc j) ⊗ L
unfolding whole ◌⊗◌ ◌⊕◌
one_more j L = omega arith

-- j L + a ≤ k L + b, where a ≤ L, and a ≤ b if j = k
pub ladder : (L a b : Ratio) (j k : ℕ) → j ≤ k → (j ≡ k → a ≼ b) → a ≼ L → whole j ⊗ L ⊕ a ≼ whole k ⊗ L ⊕ b
ladder L a b j k l same top = go (eq-or-lt_of_le l)
  where
    go : (j ≡ k) ⊎ (j < k) → whole j ⊗ L ⊕ a ≼ whole k ⊗ L ⊕ b
    go (inl e) = ⊕-mono (⊗_mono (whole_mono j k l) (≼_refl L)) (same e)
    go (inr h) =
        ≼_trans (⊕-mono (≼_refl (whole j ⊗ L)) top)
        (≼_trans (one_more j L) (≼_trans (⊗_mono (whole_mono (suc j) k h) (≼_refl L)) (⊕-upper (whole k ⊗ L) b)))

pub ln_lower_mono : (s t : Ratio) → whole 1 ≼ s → s ≼ t → (n : ℕ) → ln_lower s n ≼ ln_lower t n
unfolding ln_lower ln2_lower
ln_lower_mono s t l h n =
    ladder (series_lower third n) _ _ (exponent s) (exponent t) (exponent_mono s t l h)
    (λ e. series_lower_mono (argument_mono (fraction_mono s t h e)) n)
    (series_lower_mono (argument_below_third s) n)

pub ln_upper_mono : (s t : Ratio) (l : whole 1 ≼ s) (k : whole 1 ≼ t) → s ≼ t → (n : ℕ) → ln_upper s l n ≼ ln_upper t k n
unfolding ln_upper ln2_upper
ln_upper_mono s t l k h n =
    ladder (series_upper third n gap_third) _ _ (exponent s) (exponent t) (exponent_mono s t l h)
    (λ e. series_upper_mono (argument_mono (fraction_mono s t h e)) n _ _)
    (series_upper_mono (argument_below_third s) n _ gap_third)

-- t ≤ 2^c gives k ≤ c
pub exponent_most : (t : Ratio) → whole 1 ≼ t → (c : ℕ) → t.num ≤ 2 ^ c * t.den → exponent t ≤ c
exponent_most t o c l = go (dec_le (exponent t) c)
  where
    never : suc c ≤ exponent t → ⊥
    never q =
        omega (
          arith,
          exponent_low t o,
          l,
          mul-pos (two_pow_pos c) t.positive,
          two_pow_times c t.den,
          mul-le-mul_right t.den (pow-le-pow_right {n = 2} (omega arith) q),
        )

    go : Dec (exponent t ≤ c) → exponent t ≤ c
    go (yes q) = q
    go (no q) = absurd (never (omega arith))
