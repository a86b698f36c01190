-- How far apart the N-th upper end of e^t and the N-th lower end of e^s are, for s ≤ t ≤ s + δ, on both sides of 0:
-- U(t) (1 - δ) ≤ L(s) (1 + 2^-k)², for N > 2c + k and c at least |s| and |t|. Assumes nothing.
use Rattle.std.specs.Prelude.{ℕ, suc, ◌+◌, ◌*◌, ◌-◌, ◌≤◌, ◌≡◌}
use Rattle.std.proofs.Common.{ap, subst₂, arith}
use Rattle.std.proofs.Math.Option.{Option, none, some}
use Rattle.exact.specs.Fraction.{Ratio, ◌≼◌, ◌≈◌, Above0, whole, ◌⊕◌, ◌⊗◌, ◌⊖◌, recip, power, Frac, ◌⊑◌, zero_f, ◌⊞◌, ◌⊠◌, neg, of_ratio, magnitude}
use Rattle.exact.specs.Series.{exp_lower, exp_upper}
use Rattle.exact.specs.LnExp.{exp_upper_of, one_over_of, exp_lower_at, exp_upper_at}
use Rattle.exact.proofs.laws.Addition.{product_below_sum}
use Rattle.exact.specs.laws.Decide.{dec_f, dec_above0, decided, decided₂}
use Rattle.exact.proofs.laws.EndsMeet.{signed, above_moves, magnitude_mono}
use Rattle.exact.proofs.laws.Frac.{⊑_trans, neg_anti}
use Rattle.exact.specs.laws.Decide.{⊑-total}
use Rattle.exact.proofs.laws.Ratio.{shift, one_times, unit_right, ≼_refl, ≼_trans, to≼, zero-≼, ⊗_mono, ⊕-upper}
use Rattle.exact.proofs.laws.Reduction.{most_zero, upper_near}
use Rattle.exact.proofs.laws.Spread.{absorb, exp_moves_all}
use Rattle.exact.specs.laws.Width.{half}

-- From 0 up

zero_plus : (y δ : Ratio) → y ≼ δ → y ≼ whole 0 ⊕ δ
unfolding whole ◌⊕◌
zero_plus y δ h = omega arith

-- e^y (1 - δ) ≤ 1, for y ≤ δ
pub near_zero : (y δ : Ratio) → y ≼ δ → (n : ℕ) → exp_lower y n ⊗ (whole 1 ⊖ δ) ≼ whole 1
near_zero y δ h n = ≼_trans (absorb _ _ δ (exp_moves_all (whole 0) y δ (zero-≼ y) (zero_plus y δ h) n)) (most_zero.all n)

pairs : (S T r z : Ratio) → S ⊗ r ⊗ (T ⊗ r) ⊗ z ≈ S ⊗ T ⊗ z ⊗ (r ⊗ r)
unfolding ◌⊗◌
pairs S T r z = omega arith

-- the factor of the remainder
abbrev pub slack : ℕ → Ratio
slack k = whole 1 ⊕ power half k

slack_twice : (x : Ratio) (k : ℕ) → x ⊗ slack k ≼ x ⊗ (slack k ⊗ slack k)
slack_twice x k = ⊗_mono (≼_refl x) (≼_trans (unit_right (slack k)) (⊗_mono (≼_refl (slack k)) (⊕-upper (whole 1) (power half k))))

module _ (δ : Ratio) (c k n : ℕ) (l : suc (2 * c + k) ≤ n) where
  -- 0 ≤ x ≤ y ≤ x + δ
  pub spread_above : (x y : Ratio) → x ≼ y → y ≼ x ⊕ δ → y ≼ whole c → (g : Above0 (whole (suc n) ⊖ y))
      → exp_upper y n g ⊗ (whole 1 ⊖ δ) ≼ exp_lower x n ⊗ slack k
  spread_above x y h m b g =
      ≼_trans (⊗_mono (upper_near y c k n b l g) (≼_refl (whole 1 ⊖ δ)))
      (≼_trans (to≼ (shift (exp_lower y n) (slack k) (whole 1 ⊖ δ))) (⊗_mono (absorb _ _ δ (exp_moves_all x y δ h m n)) (≼_refl (slack k))))

  -- -x ≤ 0 ≤ y, x + y ≤ δ
  pub spread_across : (x y : Ratio) → y ⊕ x ≼ δ → x ≼ whole c → y ≼ whole c → (f : Above0 (whole (suc n) ⊖ x)) (g : Above0 (whole (suc n) ⊖ y))
      → exp_upper y n g ⊗ exp_upper x n f ⊗ (whole 1 ⊖ δ) ≼ slack k ⊗ slack k
  spread_across x y m a b f g =
      ≼_trans (⊗_mono (⊗_mono (upper_near y c k n b l g) (upper_near x c k n a l f)) (≼_refl (whole 1 ⊖ δ)))
      (≼_trans (to≼ (pairs (exp_lower y n) (exp_lower x n) (slack k) (whole 1 ⊖ δ)))
      (≼_trans
      (⊗_mono (≼_trans (⊗_mono (product_below_sum y x n n (n + n) (omega arith)) (≼_refl (whole 1 ⊖ δ))) (near_zero (y ⊕ x) δ m (n + n))) (≼_refl _))
      (to≼ (one_times (slack k ⊗ slack k)))))

-- Signed fractions

-- where both ends are there, u z ≤ l w
abbrev pub Near : Option Frac → Option Frac → Ratio → Ratio → Type 0
Near none l z w = Unit {0}
Near (some u) none z w = Unit {0}
Near (some u) (some l) z w = u ⊠ of_ratio z ⊑ l ⊠ of_ratio w

product_signed : (x y z w : Ratio) → x ⊗ z ≼ y ⊗ w → of_ratio x ⊠ of_ratio z ⊑ of_ratio y ⊠ of_ratio w
unfolding of_ratio ◌⊗◌ ◌⊠◌
product_signed x y z w h = omega (arith, h.cross)

pub recip_both : (a b z w : Ratio) (p : Above0 a) (q : Above0 b) → b ⊗ z ≼ a ⊗ w → recip a p ⊗ z ≼ recip b q ⊗ w
unfolding recip ◌⊗◌
recip_both a b z w p q h = omega (arith, h.cross)

recip_one : (a b z w : Ratio) (q : Above0 b) → a ⊗ b ⊗ z ≼ w → a ⊗ z ≼ recip b q ⊗ w
unfolding recip ◌⊗◌
recip_one a b z w q h = omega (arith, h.cross)

abbrev NearOf : Option Ratio → Option Ratio → Ratio → Ratio → Type 0
NearOf u l z w = Near (signed u) (signed l) z w

module _ (z w : Ratio) where
  near_recips : (a b : Ratio) → b ⊗ z ≼ a ⊗ w → NearOf (one_over_of (some a)) (one_over_of (some b)) z w
  unfolding one_over_of
  near_recips a b h =
      decided₂ (λ u l. NearOf u l z w) (dec_above0 a) (dec_above0 b)
      (λ p q. product_signed _ _ z w (recip_both a b z w p q h)) (λ p q. tt) (λ p q. tt) (λ p q. tt)

  near_recip : (a b : Ratio) → a ⊗ b ⊗ z ≼ w → NearOf (some a) (one_over_of (some b)) z w
  unfolding one_over_of
  near_recip a b h = decided (λ l. NearOf (some a) l z w) (dec_above0 b) (λ q. product_signed _ _ z w (recip_one a b z w q h)) (λ q. tt)

  near_above : (x y : Ratio) (n : ℕ) → ((g : Above0 (whole (suc n) ⊖ y)) → exp_upper y n g ⊗ z ≼ exp_lower x n ⊗ w)
      → NearOf (exp_upper_of y n) (some (exp_lower x n)) z w
  unfolding exp_upper_of
  near_above x y n h = decided (λ u. NearOf u (some (exp_lower x n)) z w) (dec_above0 _) (λ g. product_signed _ _ z w (h g)) (λ g. tt)

  no_lower : (u : Option Ratio) → NearOf u none z w
  no_lower none = tt
  no_lower (some a) = tt

  near_below : (x y : Ratio) (n : ℕ) → ((g : Above0 (whole (suc n) ⊖ y)) → exp_upper y n g ⊗ z ≼ exp_lower x n ⊗ w)
      → NearOf (one_over_of (some (exp_lower x n))) (one_over_of (exp_upper_of y n)) z w
  unfolding exp_upper_of one_over_of
  near_below x y n h =
      decided (λ l. NearOf (one_over_of (some (exp_lower x n))) (one_over_of l) z w) (dec_above0 _)
      (λ g. near_recips (exp_lower x n) (exp_upper y n g) (h g)) (λ g. no_lower (one_over_of (some (exp_lower x n))))

  near_across : (x y : Ratio) (n : ℕ)
      → ((f : Above0 (whole (suc n) ⊖ x)) (g : Above0 (whole (suc n) ⊖ y)) → exp_upper y n g ⊗ exp_upper x n f ⊗ z ≼ w)
      → NearOf (exp_upper_of y n) (one_over_of (exp_upper_of x n)) z w
  unfolding exp_upper_of one_over_of
  near_across x y n h =
      decided₂ (λ u l. NearOf u (one_over_of l) z w) (dec_above0 _) (dec_above0 _)
      (λ g f. near_recip (exp_upper y n g) (exp_upper x n f) (h f g)) (λ g f. tt) (λ g f. tt) (λ g f. tt)

-- the distance in magnitudes

across_moves : (s t : Frac) (δ : Ratio) → s ⊑ zero_f → zero_f ⊑ t → t ⊑ s ⊞ of_ratio δ → magnitude t ⊕ magnitude (neg s) ≼ δ
unfolding zero_f neg magnitude of_ratio ◌⊕◌ ◌⊞◌
across_moves s t δ h k l =
    let e : (s.minus - s.plus) + s.plus ≡ s.minus = omega arith in
    let f : (t.plus - t.minus) + t.minus ≡ t.plus = omega arith in
    omega (arith, l.cross, ap (λ i. i * (t.den * δ.den)) e, ap (λ i. i * (s.den * δ.den)) f)

pub neg_moves : (s t : Frac) (δ : Ratio) → t ⊑ s ⊞ of_ratio δ → neg s ⊑ neg t ⊞ of_ratio δ
unfolding neg of_ratio ◌⊞◌
neg_moves s t δ h = omega (arith, h.cross)

neg-zero : {s : Frac} → s ⊑ zero_f → zero_f ⊑ neg s
unfolding zero_f neg
neg-zero h = omega arith

pub exp_spread_signed : (s t : Frac) (δ : Ratio) → s ⊑ t → t ⊑ s ⊞ of_ratio δ → (c k n : ℕ) → magnitude (neg s) ≼ whole c → magnitude t ≼ whole c
    → suc (2 * c + k) ≤ n → Near (exp_upper_at t n) (exp_lower_at s n) (whole 1 ⊖ δ) (slack k ⊗ slack k)
unfolding exp_upper_at exp_lower_at
exp_spread_signed s t δ l m c k n a b i =
    decided₂ (λ y x. NearOf y x (whole 1 ⊖ δ) (slack k ⊗ slack k)) (dec_f zero_f t) (dec_f zero_f s)
    (λ q p.
    near_above _ _ (magnitude s) (magnitude t) n
    λ g. ≼_trans (spread_above δ c k n i _ _ (magnitude_mono l) (above_moves s t δ p q m) b g) (slack_twice _ k))
    (λ q p. near_across _ _ (magnitude (neg s)) (magnitude t) n (spread_across δ c k n i _ _ (across_moves s t δ (⊑-total zero_f s p) q m) a b))
    (λ q p. absurd (q (⊑_trans p l)))
    λ q p.
    near_below _ _ (magnitude (neg t)) (magnitude (neg s)) n
    λ g.
    ≼_trans
    (spread_above δ c k n i _ _ (magnitude_mono (neg_anti l))
    (above_moves (neg t) (neg s) δ (neg-zero (⊑-total zero_f t q)) (neg-zero (⊑-total zero_f s p)) (neg_moves s t δ m)) a g)
    (slack_twice _ k)

-- the same with the two ends named
pub exp_ends_near : (s t : Frac) (δ : Ratio) → s ⊑ t → t ⊑ s ⊞ of_ratio δ → (c k n : ℕ) → magnitude (neg s) ≼ whole c → magnitude t ≼ whole c
    → suc (2 * c + k) ≤ n → (l u : Frac) → exp_lower_at s n ≡ some l → exp_upper_at t n ≡ some u → u ⊠ of_ratio (whole 1 ⊖ δ) ⊑ l ⊠ of_ratio (slack k ⊗ slack k)
exp_ends_near s t δ h m c k n a b i l u p q =
    subst₂ (λ x y. Near x y (whole 1 ⊖ δ) (slack k ⊗ slack k)) q p (exp_spread_signed s t δ h m c k n a b i)
