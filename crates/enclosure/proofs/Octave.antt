-- ln t from t = 2^k f with 1 ≤ f ≤ 2, both ends in: the theory has f < 2, and at f = 2 the two splits agree. Assumes nothing.
use mathlib.Core.Path.{◌≡◌, ap}
use mathlib.Core.Logic.{◌⊎◌, inl, inr}
use Prim.Native.Nat.{ℕ, suc, ◌+◌, ◌*◌, ◌/◌, ◌^◌, ◌≤◌, ◌<◌}
use native.Mathlib.Nat.{mul-pos, mul-le-mul_right, mul-le-mul_left, le_of_mul-le-mul_right, div-mul-le_self, pow-le-pow_right, eq-or-lt_of_le}
use native.Mathlib.Decide.{dec_le}
use native.Mathlib.Omega.{arith}
use Rattle.exact.specs.Fraction.{Ratio, ◌≼◌, ◌≈◌, Above0, whole, ◌⊕◌, ◌⊗◌, ◌⊖◌, recip, power}
use Rattle.exact.proofs.laws.Ratio.{≼_refl, ≼_trans, ⊕-mono, ⊗_mono, above_whole, nothing_times}
use Rattle.exact.specs.Series.{one_over, even, odd, ln_tail, gap, series_lower, series_upper, exponent, fraction, argument, third}
use Rattle.exact.specs.laws.Positive.{odd_pos, two_pow_pos}
use Rattle.exact.proofs.laws.LnSeries.{series_lower_grows, series_lower_mono, series_upper_mono}
use Rattle.exact.proofs.laws.Ln.{exponent_low, exponent_high, argument_mono, argument_two, two_pow_times, whole_mono, ladder}
use Rattle.exact.specs.laws.Divisors.{gap_third, gap_argument}
use Rattle.exact.specs.LnExp.{ln2_lower, ln2_upper, ln_lower, ln_upper}
use Rattle.exact.proofs.laws.Octaves.{third_two, argument_one, zero_times, zero_terms, zero_zero, twice_zero}
use Rattle.exact.proofs.laws.Width.{ninth}
use Rattle.exact.specs.laws.Fixed.{Lower, Upper}
use Rattle.enclosure.proofs.OddSeries.{lower_to, upper_to, upper_near, ninth_from}

gap_zero : Above0 (gap (whole 0))
unfolding gap whole ◌⊖◌ ◌⊗◌
gap_zero = omega arith

no_tail : (n : ℕ) (h : Above0 (gap (whole 0))) → ln_tail (whole 0) n h ≼ whole 0
unfolding ln_tail power
no_tail n h = zero_times (power (whole 0) (even n)) (one_over (odd n) (odd_pos n) ⊗ recip (gap (whole 0)) h)

-- ln 1 is at most 0
upper_zero : (u : Ratio) → u ≼ whole 0 → (n : ℕ) (h : Above0 (gap u)) → series_upper u n h ≼ whole 0
unfolding series_upper
upper_zero u l n h =
    ≼_trans (series_upper_mono l n h gap_zero)
    (≼_trans (⊗_mono (≼_refl (whole 2)) (≼_trans (⊕-mono (zero_terms (≼_refl (whole 0)) n) (no_tail n gap_zero)) zero_zero)) twice_zero)

one_back : (k : ℕ) (L : Ratio) → whole (suc k) ⊗ L ⊕ whole 0 ≼ whole k ⊗ L ⊕ L
unfolding whole ◌⊕◌ ◌⊗◌
one_back k L = omega arith

module _ (t f : Ratio) (k : ℕ) (o : whole 1 ≼ t) (l : whole 1 ≼ f) (h : f ≼ whole 2) (e : t ≈ whole (2 ^ k) ⊗ f) where
  -- 2^k ≤ t ≤ 2^(k+1)
  at_least : 2 ^ k * t.den ≤ t.num
  unfolding whole ◌⊗◌
  at_least = le_of_mul-le-mul_right {k = f.den} (omega (arith, e.cross, mul-le-mul_left (2 ^ k * t.den) l.cross)) f.positive

  at_most : t.num ≤ 2 * 2 ^ k * t.den
  unfolding whole ◌⊗◌
  at_most = le_of_mul-le-mul_right {k = f.den} (omega (arith, e.cross, mul-le-mul_left (2 ^ k * t.den) h.cross)) f.positive

  k_low : k ≤ exponent t
  k_low = go (dec_le k (exponent t))
    where
      never : suc (exponent t) ≤ k → ⊥
      never q = omega (arith, exponent_high t, at_least, mul-le-mul_right t.den (pow-le-pow_right {n = 2} (omega arith) q))

      go : Dec (k ≤ exponent t) → k ≤ exponent t
      go (yes q) = q
      go (no q) = absurd (never (omega arith))

  k_high : exponent t ≤ suc k
  k_high = go (dec_le (exponent t) (suc k))
    where
      never : suc (suc k) ≤ exponent t → ⊥
      never q =
          omega (
            arith,
            t.positive,
            exponent_low t o,
            at_most,
            two_pow_times (suc k) t.den,
            two_pow_times k (2 * t.den),
            mul-le-mul_right t.den (two_pow_pos k),
            mul-le-mul_right t.den (pow-le-pow_right {n = 2} (omega arith) q),
          )

      go : Dec (exponent t ≤ suc k) → exponent t ≤ suc k
      go (yes q) = q
      go (no q) = absurd (never (omega arith))

  same_low : k ≡ exponent t → f ≼ fraction t
  unfolding fraction one_over whole ◌⊗◌
  same_low q = omega (arith, e.cross, ap (λ (i : ℕ). f.num * t.den * 2 ^ i) q)

  same_high : k ≡ exponent t → fraction t ≼ f
  unfolding fraction one_over whole ◌⊗◌
  same_high q = omega (arith, e.cross, ap (λ (i : ℕ). f.num * t.den * 2 ^ i) q)

  argument_third : argument f ≼ third
  argument_third = ≼_trans (argument_mono h) argument_two

  pub ln_low : (n : ℕ) → whole k ⊗ ln2_lower n ⊕ series_lower (argument f) n ≼ ln_lower t n
  unfolding ln_lower ln2_lower
  ln_low n =
      ladder (series_lower third n) _ _ k (exponent t) k_low
      (λ q. series_lower_mono (argument_mono (same_low q)) n)
      (series_lower_mono argument_third n)

  -- at the next power of two
  next_one : suc k ≡ exponent t → fraction t ≼ whole 1
  unfolding fraction one_over whole ◌⊗◌
  next_one q = omega (arith, at_most, ap (λ (i : ℕ). t.den * 2 ^ i) q, two_pow_times k t.den)

  next_two : suc k ≡ exponent t → whole 2 ≼ f
  unfolding whole ◌⊗◌
  next_two q =
      record {
        cross =
            le_of_mul-le-mul_right {k = 2 ^ k * t.den}
            (omega (arith, e.cross, mul-le-mul_right f.den (exponent_low t o), ap (λ (i : ℕ). 2 ^ i * t.den * f.den) q, two_pow_times k (t.den * f.den)))
            (mul-pos (two_pow_pos k) t.positive);
      }

  pub ln_high : (p : whole 1 ≼ t) (n : ℕ) (g : Above0 (gap (argument f))) → ln_upper t p n ≼ whole k ⊗ ln2_upper n ⊕ series_upper (argument f) n g
  unfolding ln_upper ln2_upper
  ln_high p n g = go (eq-or-lt_of_le k_low)
    where
      go : (k ≡ exponent t) ⊎ (k < exponent t) → ln_upper t p n ≼ whole k ⊗ series_upper third n gap_third ⊕ series_upper (argument f) n g
      go (inl q) = ⊕-mono (⊗_mono (whole_mono (exponent t) k (omega arith)) (≼_refl _)) (series_upper_mono (argument_mono (same_high q)) n _ g)
      go (inr q) =
          let s : suc k ≡ exponent t = omega (arith, k_high) in
          ≼_trans
          (⊕-mono (⊗_mono (whole_mono (exponent t) (suc k) (omega arith)) (≼_refl _)) (upper_zero _ (≼_trans (argument_mono (next_one s)) argument_one) n _))
          (≼_trans (one_back k _) (⊕-mono (≼_refl _) (series_upper_mono (≼_trans third_two (argument_mono (next_two s))) n gap_third g)))

-- ln 1 is 0

one_two : whole 1 ≼ whole 2
unfolding whole
one_two = omega arith

just_one : (t : Ratio) → whole 1 ≼ t → t ≼ whole 1 → t ≈ whole (2 ^ 0) ⊗ whole 1
unfolding whole ◌⊗◌
just_one t o l = omega arith

pub one_high : (t : Ratio) → t ≼ whole 1 → (o : whole 1 ≼ t) (n : ℕ) → ln_upper t o n ≼ whole 0
one_high t l o n =
    let g = gap_argument (whole 1) (above_whole 0) in
    ≼_trans (ln_high t (whole 1) 0 o (≼_refl _) one_two (just_one t o l) o n g)
    (≼_trans (⊕-mono (nothing_times _) (upper_zero _ argument_one n g)) zero_zero)

pub none_low : (u : Ratio) → u ≼ whole 0 → (n : ℕ) → whole 0 ⊗ ln2_lower n ⊕ series_lower u n ≼ whole 0
unfolding series_lower
none_low u l n =
    ≼_trans (⊕-mono (nothing_times _) (≼_trans (⊗_mono (≼_refl (whole 2)) (zero_terms l n)) twice_zero)) zero_zero

-- ln 2 in 2^-52, C rounded downward: tested against 20 terms
pub record Ln2 (C : ℕ) : Type 0 where
  pub low : Lower (2 ^ 52) C (series_lower third 20)
  pub high : Upper (2 ^ 52) (C + 1) (series_lower third 20 ⊕ power ninth 20 ⊕ power ninth 20)

pub ln2_low : {C : ℕ} → Ln2 C → (n : ℕ) → 20 ≤ n → Lower (2 ^ 52) C (ln2_lower n)
unfolding ln2_lower
ln2_low l n h = lower_to (series_lower_grows third 20 n h) l.low

pub ln2_high : {C : ℕ} → Ln2 C → (n : ℕ) → 20 ≤ n → Upper (2 ^ 52) (C + 1) (ln2_upper n)
unfolding ln2_upper
ln2_high l n h = upper_to (≼_trans (upper_near third (≼_refl third) gap_third 20 n h) (⊕-mono (≼_refl _) (ninth_from 20 n h))) l.high

-- k of them, in 2^-30

pub times_low : (C k : ℕ) (x : Ratio) → Lower (2 ^ 52) C x → Lower (2 ^ 30) (k * C / 2 ^ 22) (whole k ⊗ x)
unfolding whole ◌⊗◌
times_low C k x h =
    let q = k * C / 2 ^ 22 in
    let d : q * 2 ^ 22 ≤ k * C = div-mul-le_self (k * C) (2 ^ 22) in
    record { bound = omega (arith, mul-le-mul_left k h.bound, mul-le-mul_right x.den d) }

pub times_high : (C k : ℕ) (x : Ratio) → k ≤ 2 ^ 22 → Upper (2 ^ 52) (C + 1) x → Upper (2 ^ 30) (k * C / 2 ^ 22 + 2) (whole k ⊗ x)
unfolding whole ◌⊗◌
times_high C k x l h =
    let q = k * C / 2 ^ 22 in
    let d : k * (C + 1) ≤ (q + 2) * 2 ^ 22 = omega arith in
    record { bound = omega (arith, mul-le-mul_left k h.bound, mul-le-mul_right x.den d) }
