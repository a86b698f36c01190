-- The odd series of ln f at 0 ≤ u < 1: every lower end is below every upper end, lower ends rise and upper ends fall with N, and
-- both rise with u. Assumes nothing.
use Rattle.std.specs.Prelude.{ℕ, zero, suc, ◌+◌, ◌*◌, ◌-◌, ◌≤◌, ◌<◌, ◌≡◌, refl}
use Rattle.std.proofs.Common.{◌∙◌, ap, subst, arith}
use Rattle.std.proofs.Math.Nat.{le_dest}
use Rattle.exact.specs.Fraction.{sum, Ratio, ◌≼◌, ◌≈◌, Above0, whole, ◌⊕◌, ◌⊗◌, ◌⊖◌, recip, power}
use Rattle.exact.specs.Series.{even, gap, ln_tail, ln_term, odd, one_over, series_lower, series_upper}
use Rattle.exact.specs.laws.Positive.{odd_pos}
use Rattle.exact.proofs.laws.Ratio.{≼_refl, ≼_trans, to≼, from≼, ⊕-mono, ⊗_mono, distrib, recip_anti, ⊖-anti, power_mono, sum_mono}
use Rattle.exact.proofs.laws.Sums.{sum_rises, upper_falls, after_is, after, lower_upper}

pub even_is : (j : ℕ) → even j ≡ 2 * j
unfolding even
even_is zero = refl
even_is (suc j) = omega (arith, even_is j)

-- 1/c + u²/((c + 2)(1 - u²)) ≤ 1/(c(1 - u²))
covers_ratio : (u : Ratio) (c : ℕ) (p : 0 < c) (q : 0 < suc (suc c)) (h : Above0 (gap u))
    → one_over c p ⊕ u ⊗ u ⊗ (one_over (suc (suc c)) q ⊗ recip (gap u) h) ≼ one_over c p ⊗ recip (gap u) h
unfolding one_over gap whole recip ◌⊖◌ ◌⊗◌ ◌⊕◌
covers_ratio u c p q h =
    let e : (1 * (u.den * u.den) - u.num * u.num * 1) + u.num * u.num ≡ u.den * u.den = omega arith in
    omega (arith, ap (λ i. i * (u.den * u.den * c * suc (suc c) * (1 * (u.den * u.den) - u.num * u.num * 1))) e)

regroup : (u w a b : Ratio) → (u ⊗ (u ⊗ w)) ⊗ (a ⊗ b) ≈ w ⊗ (u ⊗ u ⊗ (a ⊗ b))
unfolding ◌⊗◌
regroup u w a b = omega arith

-- w/c + u² w/((c + 2)(1 - u²)) ≤ w/(c(1 - u²))
covers_by : (u w : Ratio) (c : ℕ) (p : 0 < c) (q : 0 < suc (suc c)) (h : Above0 (gap u))
    → w ⊗ one_over c p ⊕ (u ⊗ (u ⊗ w)) ⊗ (one_over (suc (suc c)) q ⊗ recip (gap u) h) ≼ w ⊗ (one_over c p ⊗ recip (gap u) h)
covers_by u w c p q h =
    ≼_trans (⊕-mono (≼_refl _) (to≼ (regroup u w _ _)))
    (≼_trans (from≼ (distrib w _ _)) (⊗_mono (≼_refl w) (covers_ratio u c p q h)))

tail_covers : (u : Ratio) (n : ℕ) (h : Above0 (gap u)) → ln_term u n ⊕ ln_tail u (suc n) h ≼ ln_tail u n h
unfolding ln_term ln_tail even power
tail_covers u n h = covers_by u (power u (odd n)) (odd n) (odd_pos n) (odd_pos (suc n)) h

-- every lower end is below every upper end
pub series_lower_upper : (u : Ratio) (m n : ℕ) (h : Above0 (gap u)) → series_lower u m ≼ series_upper u n h
unfolding series_lower series_upper
series_lower_upper u m n h =
    ⊗_mono (≼_refl (whole 2)) (lower_upper (ln_term u) (λ j. ln_tail u (after n j) h) n (λ j. tail_covers u (after n j) h) m)

pub series_lower_grows : (u : Ratio) (m n : ℕ) → m ≤ n → series_lower u m ≼ series_lower u n
unfolding series_lower
series_lower_grows u m n l = ⊗_mono (≼_refl (whole 2)) (sum_rises (ln_term u) m n l)

pub series_upper_falls : (u : Ratio) (m n : ℕ) → m ≤ n → (h : Above0 (gap u)) → series_upper u n h ≼ series_upper u m h
unfolding series_upper
series_upper_falls u m n l h =
    let d = le_dest l in
    subst (λ i. whole 2 ⊗ (sum (ln_term u) i ⊕ ln_tail u i h) ≼ whole 2 ⊗ (sum (ln_term u) m ⊕ ln_tail u m h)) (after_is m d.0 ∙ d.1)
    (⊗_mono (≼_refl (whole 2)) (upper_falls (ln_term u) (λ j. ln_tail u (after m j) h) m (λ j. tail_covers u (after m j) h) d.0))

-- Larger u

pub gap_anti : {u v : Ratio} → u ≼ v → Above0 (gap v) → gap v ≼ gap u
unfolding gap
gap_anti l h = ⊖-anti (whole 1) (⊗_mono l l) h

term_mono : {u v : Ratio} → u ≼ v → (j : ℕ) → ln_term u j ≼ ln_term v j
unfolding ln_term
term_mono l j = ⊗_mono (power_mono l (odd j)) (≼_refl _)

pub series_lower_mono : {u v : Ratio} → u ≼ v → (n : ℕ) → series_lower u n ≼ series_lower v n
unfolding series_lower
series_lower_mono l n = ⊗_mono (≼_refl (whole 2)) (sum_mono (term_mono l) n)

pub series_upper_mono : {u v : Ratio} → u ≼ v → (n : ℕ) (h : Above0 (gap u)) (k : Above0 (gap v)) → series_upper u n h ≼ series_upper v n k
unfolding series_upper ln_tail
series_upper_mono l n h k =
    ⊗_mono (≼_refl (whole 2))
    (⊕-mono (sum_mono (term_mono l) n) (⊗_mono (power_mono l (odd n)) (⊗_mono (≼_refl _) (recip_anti k h (gap_anti l k)))))
