-- How far apart the upper end of ln t and the lower end of ln s are, for s ≤ t ≤ s + δ, on both sides of 1: at most δ/s and the
-- remainders. And S(v) (1 - d) ≤ S(u) for the sums of e^. Assumes nothing.
use Prim.Native.Nat.{ℕ, zero, suc, ◌+◌, ◌*◌, ◌-◌, ◌^◌, ◌≤◌}
use Rattle.std.specs.Prelude.{◌≡◌, refl}
use Rattle.std.proofs.Common.{ap, le_of_mul-le-mul_right, mul-le-mul_right, arith}
use Rattle.std.proofs.Math.Decide.{dec_le}
use Rattle.exact.specs.Fraction.{Ratio, ◌≼◌, ◌≈◌, Above0, whole, ◌⊕◌, ◌⊗◌, ◌⊖◌, recip, power, sum, Frac, ◌⊑◌, Positive, ◌⊞◌, neg, of_ratio, magnitude, one_f}
use Rattle.exact.specs.Series.{exp_lower, one_over, series_lower, climb, exponent, fraction, argument}
use Rattle.exact.specs.LnExp.{ln2_lower, ln_lower, ln_upper, ln_lower_at, ln_upper_at}
use Rattle.exact.specs.laws.Decide.{dec_f, decided, decided₂}
use Rattle.exact.specs.laws.Divisors.{magnitude_above, one_magnitude, one_recip}
use Rattle.exact.proofs.laws.EndsMeet.{above_moves, positive_zero, magnitude_mono}
use Rattle.exact.proofs.laws.Frac.{⊑_trans}
use Rattle.exact.proofs.laws.Lipschitz.{exp_moves}
use Rattle.exact.proofs.laws.Ln.{exponent_most, whole_mono}
use Rattle.exact.proofs.laws.Octaves.{ln_moves, squeeze, rises, less_one, zero_terms, twice_zero, zero_zero, over_one, difference}
use Rattle.exact.proofs.laws.Ratio.{exchange, nothing_times, ≼_refl, ≼_trans, to≼, ⊕-mono, ⊕-assoc, ⊗_mono, ⊕-upper, recip_anti, above_whole}
use Rattle.exact.proofs.laws.Width.{ninth, ln_width}

-- ln, from 1 up

pub ln_spread : (s t δ : Ratio) → whole 1 ≼ s → s ≼ t → t ≼ s ⊕ δ → (p : Above0 s) (u : whole 1 ≼ t) (n : ℕ)
    → ln_upper t u n ≼ ln_lower s n ⊕ δ ⊗ recip s p ⊕ whole (suc (exponent t)) ⊗ power ninth n
ln_spread s t δ o l h p u n = ≼_trans (ln_width t u n) (⊕-mono (ln_moves s t δ o l h p n) (≼_refl _))

-- ln, up to 1: of the reciprocals, the other way round

recip_moves : (s t δ : Ratio) → t ≼ s ⊕ δ → (p : Above0 s) (q : Above0 t) → recip s p ≼ recip t q ⊕ δ ⊗ (recip s p ⊗ recip t q)
unfolding recip ◌⊕◌ ◌⊗◌
recip_moves s t δ h p q = omega (arith, mul-le-mul_right (s.num * t.num) h.cross)

recip_back : (s t δ : Ratio) (p : Above0 s) (q : Above0 t) (r : Above0 (recip t q)) → δ ⊗ (recip s p ⊗ recip t q) ⊗ recip (recip t q) r ≼ δ ⊗ recip s p
unfolding recip ◌⊗◌
recip_back s t δ p q r = omega arith

pub recip_above : (t : Ratio) (q : Above0 t) → Above0 (recip t q)
unfolding recip
recip_above t q = record { above = t.positive }

pub ln_spread_below : (s t δ : Ratio) → s ≼ t → t ≼ s ⊕ δ → (p : Above0 s) (q : Above0 t) → whole 1 ≼ recip t q → (u : whole 1 ≼ recip s p) (n : ℕ)
    → ln_upper (recip s p) u n ≼ ln_lower (recip t q) n ⊕ δ ⊗ recip s p ⊕ whole (suc (exponent (recip s p))) ⊗ power ninth n
ln_spread_below s t δ l h p q o u n =
    ≼_trans
    (ln_spread (recip t q) (recip s p) (δ ⊗ (recip s p ⊗ recip t q)) o (recip_anti p q l) (recip_moves s t δ h p q) (recip_above t q) u n)
    (⊕-mono (⊕-mono (≼_refl _) (recip_back s t δ p q (recip_above t q))) (≼_refl _))

-- ln, across 1

one_argument : argument (fraction (whole 1)) ≼ whole 0
unfolding argument fraction exponent climb dec_le one_over whole recip ◌⊖◌ ◌⊗◌ ◌⊕◌
one_argument = omega arith

one_exponent : exponent (whole 1) ≡ 0
unfolding exponent climb dec_le whole
one_exponent = refl

-- ln 1 = 0
pub ln_one : (n : ℕ) → ln_lower (whole 1) n ≼ whole 0
unfolding ln_lower series_lower
ln_one n =
    ≼_trans
    (⊕-mono
    (rw one_exponent (nothing_times (ln2_lower n)))
    (≼_trans (⊗_mono (≼_refl (whole 2)) (zero_terms one_argument n)) twice_zero))
    zero_zero

-- ln t ≤ t - 1
pub ln_linear : (t : Ratio) (u : whole 1 ≼ t) (n : ℕ) → ln_upper t u n ≼ t ⊖ whole 1 ⊕ whole (suc (exponent t)) ⊗ power ninth n
ln_linear t u n =
    ≼_trans (ln_spread (whole 1) t (t ⊖ whole 1) (≼_refl (whole 1)) u (difference (whole 1) t) (above_whole 0) u n)
    (⊕-mono (≼_trans (⊕-mono (ln_one n) (≼_refl _)) (over_one (t ⊖ whole 1))) (≼_refl _))

product_moves : (s t δ : Ratio) → t ≼ s ⊕ δ → (p : Above0 s) → t ⊗ whole 1 ⊗ recip s p ≼ δ ⊗ recip s p ⊕ whole 1
unfolding whole recip ◌⊕◌ ◌⊗◌
product_moves s t δ h p = omega (arith, mul-le-mul_right s.num h.cross)

drop_zero : (x y : Ratio) → x ⊕ y ≼ x ⊕ whole 0 ⊕ y
unfolding whole ◌⊕◌
drop_zero x y = omega arith

-- (t - 1) + (1/s - 1) ≤ δ/s
across_room : (s t δ : Ratio) → t ≼ s ⊕ δ → (p : Above0 s) → whole 1 ≼ t → whole 1 ≼ recip s p → t ⊖ whole 1 ⊕ (recip s p ⊖ whole 1) ≼ δ ⊗ recip s p
across_room s t δ h p u o =
    ≼_trans (drop_zero _ _)
    (squeeze _ _ _ t (recip s p) (t ⊗ whole 1 ⊗ recip s p) (whole 0)
    (less_one t u) (less_one (recip s p) o) (rises 0 1 t (recip s p) (omega arith) u o) (product_moves s t δ h p))

pub ln_spread_across : (s t δ : Ratio) → t ≼ s ⊕ δ → (p : Above0 s) (u : whole 1 ≼ t) (o : whole 1 ≼ recip s p) (n : ℕ)
    → ln_upper t u n ⊕ ln_upper (recip s p) o n
    ≼ δ ⊗ recip s p ⊕ (whole (suc (exponent t)) ⊗ power ninth n ⊕ whole (suc (exponent (recip s p))) ⊗ power ninth n)
ln_spread_across s t δ h p u o n =
    ≼_trans (⊕-mono (ln_linear t u n) (ln_linear (recip s p) o n))
    (≼_trans (to≼ (exchange _ _ _ _)) (⊕-mono (across_room s t δ h p u o) (≼_refl _)))

-- e^: S(v) (1 - d) ≤ S(u), for u ≤ v ≤ u + d

pub absorb : (x y d : Ratio) → x ≼ y ⊕ d ⊗ x → x ⊗ (whole 1 ⊖ d) ≼ y
unfolding whole ◌⊕◌ ◌⊗◌ ◌⊖◌
absorb x y d h = record { cross = go (dec_le d.num d.den) }
  where
    go : Dec (d.num ≤ d.den) → x.num * (1 * d.den - d.num * 1) * y.den ≤ y.num * (x.den * (1 * d.den))
    go (yes k) =
        let e : (1 * d.den - d.num * 1) + d.num ≡ d.den = omega arith in
        le_of_mul-le-mul_right {k = x.den} (omega (arith, h.cross, ap (λ i. i * (x.num * y.den * x.den)) e)) x.positive
    go (no k) = let z : 1 * d.den - d.num * 1 ≡ 0 = omega arith in rw z (omega arith)

module _ (u v d : Ratio) (l : u ≼ v) (h : v ≼ u ⊕ d) where
  pub exp_moves_all : (n : ℕ) → exp_lower v n ≼ exp_lower u n ⊕ d ⊗ exp_lower v n
  unfolding exp_lower sum
  exp_moves_all zero = ⊕-upper _ _
  exp_moves_all (suc n) = ≼_trans (exp_moves u v d l h n) (⊕-mono (≼_refl _) (⊗_mono (≼_refl d) (⊕-upper _ _)))

-- ln of signed fractions, on both sides of 1

pub sum_signed : (x y z : Ratio) → x ≼ y ⊕ z → of_ratio x ⊑ of_ratio y ⊞ of_ratio z
unfolding of_ratio ◌⊕◌ ◌⊞◌
sum_signed x y z h = omega (arith, h.cross)

pub sum_negated : (x y z : Ratio) → y ≼ x ⊕ z → neg (of_ratio x) ⊑ neg (of_ratio y) ⊞ of_ratio z
unfolding of_ratio neg ◌⊕◌ ◌⊞◌
sum_negated x y z h = omega (arith, h.cross)

pub sum_crossed : (x y z : Ratio) → x ⊕ y ≼ z → of_ratio x ⊑ neg (of_ratio y) ⊞ of_ratio z
unfolding of_ratio neg ◌⊕◌ ◌⊞◌
sum_crossed x y z h = omega (arith, h.cross)

-- how many octaves t lies from 1
unfoldable pub octaves : (t : Frac) → Positive t → ℕ
octaves t h = elim (dec_f one_f t) [ yes l ↦ exponent (magnitude t) | no l ↦ exponent (recip (magnitude t) (magnitude_above t h)) ]

octaves_above : (t : Frac) (h : Positive t) → one_f ⊑ t → octaves t h ≡ exponent (magnitude t)
unfolding octaves
octaves_above t h o = decided (λ k. k ≡ exponent (magnitude t)) (dec_f one_f t) (λ l. refl) (λ l. absurd (l o))

octaves_below : (t : Frac) (h : Positive t) → ¬ (one_f ⊑ t) → octaves t h ≡ exponent (recip (magnitude t) (magnitude_above t h))
unfolding octaves
octaves_below t h o = decided (λ k. k ≡ exponent (recip (magnitude t) (magnitude_above t h))) (dec_f one_f t) (λ l. absurd (o l)) (λ l. refl)

-- 2^-c ≤ t ≤ 2^c
pub octaves_most : (t : Frac) (h : Positive t) (c : ℕ) → (magnitude t).num ≤ 2 ^ c * (magnitude t).den → (magnitude t).den ≤ 2 ^ c * (magnitude t).num → octaves t h ≤ c
unfolding octaves recip
octaves_most t h c a b =
    decided (λ k. k ≤ c) (dec_f one_f t)
    (λ l. exponent_most (magnitude t) (one_magnitude l) c a)
    (λ l. exponent_most (recip (magnitude t) (magnitude_above t h)) (one_recip t (magnitude_above t h) l) c b)

-- δ/s, and the remainders of both ends
unfoldable pub spread : (s : Frac) → Positive s → Ratio → (c n : ℕ) → Ratio
spread s h δ c n = δ ⊗ recip (magnitude s) (magnitude_above s h) ⊕ whole c ⊗ power ninth n

fewer : (Z N : Ratio) (a c : ℕ) → a ≤ c → Z ⊕ whole a ⊗ N ≼ Z ⊕ whole c ⊗ N
fewer Z N a c h = ⊕-mono (≼_refl Z) (⊗_mono (whole_mono a c h) (≼_refl N))

pub together : (a b : ℕ) (N : Ratio) → whole a ⊗ N ⊕ whole b ⊗ N ≈ whole (a + b) ⊗ N
unfolding whole ◌⊕◌ ◌⊗◌
together a b N = omega arith

both_tails : (Z N : Ratio) (a b c : ℕ) → a + b ≤ c → Z ⊕ (whole a ⊗ N ⊕ whole b ⊗ N) ≼ Z ⊕ whole c ⊗ N
both_tails Z N a b c h = ≼_trans (⊕-mono (≼_refl Z) (to≼ (together a b N))) (fewer Z N (a + b) c h)

pub ln_spread_signed : (s t : Frac) (δ : Ratio) (h : Positive s) (k : Positive t) → s ⊑ t → t ⊑ s ⊞ of_ratio δ → (n : ℕ)
    → ln_upper_at t k n ⊑ ln_lower_at s h n ⊞ of_ratio (spread s h δ (suc (octaves s h) + suc (octaves t k)) n)
unfolding ln_upper_at ln_lower_at spread
ln_spread_signed s t δ h k l m n =
    decided₂ (λ x y. y ⊑ x ⊞ of_ratio (spread s h δ (suc (octaves s h) + suc (octaves t k)) n)) (dec_f one_f s) (dec_f one_f t)
    (λ i j.
    sum_signed _ _ _
    (≼_trans (ln_spread (magnitude s) (magnitude t) δ (one_magnitude i) (magnitude_mono l) moves (magnitude_above s h) (one_magnitude j) n)
    (≼_trans (to≼ (⊕-assoc _ _ _)) (⊕-mono (≼_refl _) (fewer _ (power ninth n) _ _ (omega (arith, octaves_above t k j)))))))
    (λ i j. absurd (j (⊑_trans i l)))
    (λ i j.
    sum_crossed _ _ _
    (≼_trans (ln_spread_across (magnitude s) (magnitude t) δ moves (magnitude_above s h) (one_magnitude j) (one_recip s (magnitude_above s h) i) n)
    (both_tails _ (power ninth n) _ _ _ (omega (arith, octaves_below s h i, octaves_above t k j)))))
    λ i j.
    sum_negated _ _ _
    (≼_trans
    (ln_spread_below (magnitude s) (magnitude t) δ (magnitude_mono l) moves (magnitude_above s h) (magnitude_above t k)
    (one_recip t (magnitude_above t k) j) (one_recip s (magnitude_above s h) i) n)
    (≼_trans (to≼ (⊕-assoc _ _ _)) (⊕-mono (≼_refl _) (fewer _ (power ninth n) _ _ (omega (arith, octaves_below s h i))))))
  where
    moves : magnitude t ≼ magnitude s ⊕ δ
    moves = above_moves s t δ (positive_zero h) (positive_zero k) m
