-- The lower end of ln is Lipschitz across powers of two: for 1 ≤ s ≤ t ≤ s + δ, L_N(t) ≤ L_N(s) + δ/s.
-- Assumes nothing.
use Rattle.std.specs.Prelude.{ℕ, zero, suc, ◌+◌, ◌*◌, ◌-◌, ◌^◌, ◌≤◌, ◌<◌, ◌≡◌, ◌⊎◌, [], ◌∷◌}
use Rattle.std.proofs.Common.{ap, inl, inr, mul-pos, mul-le-mul_right, mul-le-mul_left, mul-le-mul, eq-or-lt_of_le, arith, pow-add}
use Rattle.std.proofs.Math.Nat.{le_dest, pow-succ'}
use Rattle.exact.specs.Fraction.{Ratio, ◌≼◌, ◌≈◌, Above0, whole, ◌⊕◌, ◌⊗◌, ◌⊖◌, recip, power, sum}
use Rattle.exact.specs.Series.{one_over, even, ln_term, series_lower, exponent, fraction, argument, third}
use Rattle.exact.specs.LnExp.{ln2_lower, ln_lower}
use Rattle.exact.specs.laws.Divisors.{fraction_above}
use Rattle.exact.proofs.laws.Frac.{rearrange}
use Rattle.exact.proofs.laws.Linear.{◌+ˢ◌, read, back, linear}
use Rattle.exact.proofs.laws.Lipschitz.{ln_fraction_moves}
use Rattle.exact.proofs.laws.Ln.{exponent_low, exponent_mono, fraction_mono, fraction_below_two, whole_mono}
use Rattle.exact.proofs.laws.LnSeries.{series_lower_mono}
use Rattle.exact.specs.laws.Positive.{two_pow_pos}
use Rattle.exact.proofs.laws.Ratio.{above_whole, ≼_refl, ≼_trans, to≼, from≼, ⊕-mono, ⊗_mono, ⊕-assoc}

pub difference : (x y : Ratio) → y ≼ x ⊕ (y ⊖ x)
unfolding ◌⊕◌ ◌⊖◌
difference x y =
    let e : y.num * x.den ≤ (y.num * x.den - x.num * y.den) + x.num * y.den = omega arith in
    omega (arith, mul-le-mul_right (x.den * y.den) e)

-- ln 1 = 0

pub zero_times : (P O : Ratio) → whole 0 ⊗ P ⊗ O ≼ whole 0
unfolding whole ◌⊗◌
zero_times P O = omega arith

pub zero_zero : whole 0 ⊕ whole 0 ≼ whole 0
unfolding whole ◌⊕◌
zero_zero = omega arith

pub zero_terms : {z : Ratio} → z ≼ whole 0 → (n : ℕ) → sum (ln_term z) n ≼ whole 0
unfolding sum ln_term power
zero_terms h zero = ≼_refl (whole 0)
zero_terms {z} h (suc n) =
    ≼_trans (⊕-mono (zero_terms h n) (≼_trans (⊗_mono (⊗_mono h (≼_refl (power z (even n)))) (≼_refl _)) (zero_times (power z (even n)) _))) zero_zero

pub argument_one : argument (whole 1) ≼ whole 0
unfolding argument whole recip ◌⊖◌ ◌⊗◌ ◌⊕◌
argument_one = omega arith

pub twice_zero : whole 2 ⊗ whole 0 ≼ whole 0
unfolding whole ◌⊗◌
twice_zero = omega arith

zero_series : (n : ℕ) → series_lower (argument (whole 1)) n ≼ whole 0
unfolding series_lower
zero_series n = ≼_trans (⊗_mono (≼_refl (whole 2)) (zero_terms argument_one n)) twice_zero

pub over_one : (x : Ratio) → whole 0 ⊕ x ⊗ recip (whole 1) (above_whole 0) ≼ x
unfolding whole recip ◌⊕◌ ◌⊗◌
over_one x = omega arith

-- ln f ≤ f - 1
pub ln_below_linear : (f : Ratio) → whole 1 ≼ f → (n : ℕ) → series_lower (argument f) n ≼ f ⊖ whole 1
ln_below_linear f l n =
    ≼_trans (ln_fraction_moves (whole 1) f (f ⊖ whole 1) (≼_refl (whole 1)) l (difference (whole 1) f) (above_whole 0) n)
    (≼_trans (⊕-mono (zero_series n) (≼_refl _)) (over_one (f ⊖ whole 1)))

two_less_one : whole 2 ⊖ whole 1 ≼ whole 1
unfolding whole ◌⊖◌
two_less_one = omega arith

pub third_two : third ≼ argument (whole 2)
unfolding argument third one_over whole recip ◌⊖◌ ◌⊗◌ ◌⊕◌
third_two = omega arith

pub ln2_below_one : (n : ℕ) → series_lower third n ≼ whole 1
ln2_below_one n = ≼_trans (series_lower_mono third_two n) (≼_trans (ln_below_linear (whole 2) (whole_mono 1 2 (omega arith)) n) two_less_one)

-- The same octave

scaled_moves : (s t δ : Ratio) (K : ℕ) (z : 0 < K) → t ≼ s ⊕ δ → t ⊗ one_over K z ≼ s ⊗ one_over K z ⊕ δ ⊗ one_over K z
unfolding one_over ◌⊕◌ ◌⊗◌
scaled_moves s t δ K z h = omega (arith, mul-le-mul_right (K * K) h.cross)

fraction_of : (t : Ratio) (k : ℕ) → k ≡ exponent t → fraction t ≈ t ⊗ one_over (2 ^ k) (two_pow_pos k)
unfolding fraction one_over ◌⊗◌
fraction_of t k e = omega (arith, ap (λ i. t.num * t.den * 2 ^ i) e)

unscale : (s δ : Ratio) (K : ℕ) (z : 0 < K) (p : Above0 s) (q : Above0 (s ⊗ one_over K z))
    → δ ⊗ one_over K z ⊗ recip (s ⊗ one_over K z) q ≼ δ ⊗ recip s p
unfolding one_over recip ◌⊗◌
unscale s δ K z p q = omega arith

pub fraction_one : (t : Ratio) → whole 1 ≼ t → whole 1 ≼ fraction t
unfolding fraction one_over whole ◌⊗◌
fraction_one t l = omega (arith, exponent_low t l)

same_octave : (s t δ : Ratio) → whole 1 ≼ s → s ≼ t → t ≼ s ⊕ δ → exponent s ≡ exponent t → (p : Above0 s) (n : ℕ)
    → series_lower (argument (fraction t)) n ≼ series_lower (argument (fraction s)) n ⊕ δ ⊗ recip s p
unfolding fraction
same_octave s t δ o l h e p n =
    ≼_trans
    (ln_fraction_moves (fraction s) (fraction t) (δ ⊗ one_over (2 ^ exponent s) (two_pow_pos (exponent s))) (fraction_one s o) (fraction_mono s t l e)
    (≼_trans (to≼ (fraction_of t (exponent s) e)) (scaled_moves s t δ (2 ^ exponent s) (two_pow_pos (exponent s)) h))
    (fraction_above s o) n)
    (⊕-mono (≼_refl _) (unscale s δ (2 ^ exponent s) _ p _))

-- Another octave: a + m + b ≤ a 2^m b + 1

rise : (m M a α b β : ℕ) → suc m ≤ M → α ≤ a → β ≤ b → a * β + m * (α * β) + b * α ≤ M * (a * b) + α * β
rise m M a α b β h k l =
    omega (arith, mul-le-mul_right (a * b) h, mul-le-mul_left m (mul-le-mul k l), rearrange α a β b k l)

pub rises : (m M : ℕ) (a b : Ratio) → suc m ≤ M → whole 1 ≼ a → whole 1 ≼ b → a ⊕ whole m ⊕ b ≼ a ⊗ whole M ⊗ b ⊕ whole 1
unfolding whole ◌⊕◌ ◌⊗◌
rises m M a b h k l =
    omega (arith, mul-le-mul_right (a.den * b.den) (rise m M a.num a.den b.num b.den h (omega arith) (omega arith)))

-- (2 - f)/f + 1 ≤ 2/f
top_one : (f : Ratio) → f ≼ whole 2 → (p : Above0 f) → (whole 2 ⊖ f) ⊗ recip f p ⊕ whole 1 ≼ whole 2 ⊗ recip f p
unfolding whole recip ◌⊖◌ ◌⊗◌ ◌⊕◌
top_one f l p =
    let e : (2 * f.den - f.num * 1) + f.num ≡ 2 * f.den = omega arith in
    omega (arith, ap (λ i. i * (f.den * f.num)) e)

-- (b - 1) + 1 ≤ b
pub less_one : (b : Ratio) → whole 1 ≼ b → b ⊖ whole 1 ⊕ whole 1 ≼ b
unfolding whole ◌⊖◌ ◌⊕◌
less_one b l =
    let e : (b.num * 1 - 1 * b.den) + b.den ≡ b.num = omega arith in
    omega (arith, ap (λ i. i * b.den) e)

one_top : (f : Ratio) → f ≼ whole 2 → (p : Above0 f) → whole 1 ≼ whole 2 ⊗ recip f p
unfolding whole recip ◌⊗◌
one_top f l p = omega arith

pub suc_pow : (m : ℕ) → suc m ≤ 2 ^ m
suc_pow zero = omega arith
suc_pow (suc m) = omega (arith, suc_pow m)

-- 2/f_s · 2^m · f_t = t/s ≤ δ/s + 1, where t is in octave k + 1 + m and s in octave k
whole_ratio : (s t δ : Ratio) (K M : ℕ) (z : 0 < K) (y : 0 < K * (2 * M)) (p : Above0 s) (q : Above0 (s ⊗ one_over K z)) → t ≼ s ⊕ δ
    → whole 2 ⊗ recip (s ⊗ one_over K z) q ⊗ whole M ⊗ (t ⊗ one_over (K * (2 * M)) y) ≼ δ ⊗ recip s p ⊕ whole 1
unfolding one_over whole recip ◌⊕◌ ◌⊗◌
whole_ratio s t δ K M z y p q h = omega (arith, mul-le-mul_right (2 * K * M * s.num) h.cross)

-- X + m + Y ≤ Z from X + 1 ≤ a, Y + 1 ≤ b, a + m + b ≤ c + 1 and c ≤ Z + 1
pub squeeze : (X Y Z a b c m : Ratio) → X ⊕ whole 1 ≼ a → Y ⊕ whole 1 ≼ b → a ⊕ m ⊕ b ≼ c ⊕ whole 1 → c ≼ Z ⊕ whole 1 → X ⊕ m ⊕ Y ≼ Z
squeeze X Y Z a b c m h k l n =
    linear (X ∷ Y ∷ Z ∷ a ∷ b ∷ c ∷ m ∷ whole 1 ∷ [])
    λ D z x y w p q r s u.
    back z (x +ˢ s +ˢ y) w
    (omega (arith, read (x +ˢ u) p h, read (y +ˢ u) q k, read (p +ˢ s +ˢ q) (r +ˢ u) l, read r (w +ˢ u) n))

-- k L + L + m ≥ (k + 1 + m) L
steps : (k m : ℕ) (L : Ratio) → L ≼ whole 1 → whole (suc (k + m)) ⊗ L ≼ whole k ⊗ L ⊕ L ⊕ whole m
unfolding whole ◌⊕◌ ◌⊗◌
steps k m L h = omega (arith, mul-le-mul_left (m * L.den * L.den) h.cross)

regather : (k_l F X m Y : Ratio) → k_l ⊕ (F ⊕ X) ⊕ m ⊕ Y ≼ k_l ⊕ F ⊕ (X ⊕ m ⊕ Y)
regather k_l F X m Y =
    linear (k_l ∷ F ∷ X ∷ m ∷ Y ∷ [])
    λ D z k f x m y. back z (k +ˢ (f +ˢ x) +ˢ m +ˢ y) (k +ˢ f +ˢ (x +ˢ m +ˢ y)) (omega arith)

one_over_anti : (A B : ℕ) (y : 0 < A) (z : 0 < B) → B ≤ A → one_over A y ≼ one_over B z
unfolding one_over
one_over_anti A B y z h = omega arith

two_pow_split : (k m : ℕ) → 2 ^ suc (k + m) ≡ 2 ^ k * (2 * 2 ^ m)
two_pow_split k m = rw (pow-succ', pow-add) (omega arith)

-- f_t over the exponent of s
fraction_over : (t : Ratio) (k m : ℕ) (y : 0 < 2 ^ k * (2 * 2 ^ m)) → suc (k + m) ≡ exponent t
    → fraction t ≼ t ⊗ one_over (2 ^ k * (2 * 2 ^ m)) y
fraction_over t k m y e =
    ≼_trans (to≼ (fraction_of t (suc (k + m)) e))
    (⊗_mono (≼_refl t) (one_over_anti _ _ (two_pow_pos (suc (k + m))) y (omega (arith, two_pow_split k m))))

-- (2 - f_s)/f_s + m + (f_t - 1) ≤ δ/s, where t is m + 1 octaves above s
octaves_room : (s t δ : Ratio) → whole 1 ≼ s → whole 1 ≼ t → t ≼ s ⊕ δ → (p : Above0 s) (q : Above0 (fraction s)) (m : ℕ) → suc (exponent s + m) ≡ exponent t
    → (whole 2 ⊖ fraction s) ⊗ recip (fraction s) q ⊕ whole m ⊕ (fraction t ⊖ whole 1) ≼ δ ⊗ recip s p
unfolding fraction
octaves_room s t δ o u h p q m e =
    let y : 0 < 2 ^ exponent s * (2 * 2 ^ m) = mul-pos (two_pow_pos (exponent s)) (mul-pos {m = 2} (omega arith) (two_pow_pos m)) in
    squeeze _ _ _ (whole 2 ⊗ recip (fraction s) q) (fraction t) (whole 2 ⊗ recip (fraction s) q ⊗ whole (2 ^ m) ⊗ fraction t) (whole m)
    (top_one (fraction s) (fraction_below_two s) q)
    (less_one (fraction t) (fraction_one t u))
    (rises m (2 ^ m) _ (fraction t) (suc_pow m) (one_top (fraction s) (fraction_below_two s) q) (fraction_one t u))
    (≼_trans (⊗_mono (≼_refl _) (fraction_over t (exponent s) m y e)) (whole_ratio s t δ (2 ^ exponent s) (2 ^ m) (two_pow_pos (exponent s)) y p q h))

octaves_moves : (s t δ : Ratio) → whole 1 ≼ s → s ≼ t → t ≼ s ⊕ δ → (p : Above0 s) (n m : ℕ) → suc (exponent s + m) ≡ exponent t
    → ln_lower t n ≼ ln_lower s n ⊕ δ ⊗ recip s p
unfolding ln_lower ln2_lower
octaves_moves s t δ o l h p n m e =
    let u : whole 1 ≼ t = ≼_trans o l in
    let q : Above0 (fraction s) = fraction_above s o in
    ≼_trans
    (⊕-mono
    (≼_trans (⊗_mono (whole_mono (exponent t) (suc (exponent s + m)) (omega arith)) (≼_refl (series_lower third n)))
    (≼_trans (steps (exponent s) m (series_lower third n) (ln2_below_one n))
    (⊕-mono (⊕-mono (≼_refl _)
    (≼_trans (series_lower_mono third_two n)
    (ln_fraction_moves (fraction s) (whole 2) (whole 2 ⊖ fraction s) (fraction_one s o) (fraction_below_two s) (difference (fraction s) (whole 2)) q n)))
    (≼_refl (whole m)))))
    (ln_below_linear (fraction t) (fraction_one t u) n))
    (≼_trans (regather _ _ _ _ _) (⊕-mono (≼_refl _) (octaves_room s t δ o u h p q m e)))

pub ln_moves : (s t δ : Ratio) → whole 1 ≼ s → s ≼ t → t ≼ s ⊕ δ → (p : Above0 s) (n : ℕ) → ln_lower t n ≼ ln_lower s n ⊕ δ ⊗ recip s p
unfolding ln_lower ln2_lower
ln_moves s t δ o l h p n = go (eq-or-lt_of_le (exponent_mono s t o l))
  where
    go : (exponent s ≡ exponent t) ⊎ (exponent s < exponent t) → ln_lower t n ≼ ln_lower s n ⊕ δ ⊗ recip s p
    go (inl e) =
        ≼_trans (⊕-mono (⊗_mono (whole_mono (exponent t) (exponent s) (omega arith)) (≼_refl _)) (same_octave s t δ o l h e p n))
        (from≼ (⊕-assoc _ _ _))
    go (inr k) =
        let d : (m : ℕ) × (suc (exponent s) + m ≡ exponent t) = le_dest k in
        octaves_moves s t δ o l h p n d.0 (omega (arith, d.1))
