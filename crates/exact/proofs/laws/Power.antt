-- Powers: x^(p/q) = e^((p/q) ln x), x ≥ 1, has every lower end l with l^q ≤ x^p and every upper end u with x^p ≤ u^q; and the
-- two ends of the N-th bracket are near each other (`power_near`). Assumes nothing.
use Rattle.std.specs.Prelude.{ℕ, zero, suc, ◌+◌, ◌*◌, ◌^◌, ◌≤◌, ◌<◌}
use Rattle.std.proofs.Math.Decide.{dec_le}
use Rattle.std.proofs.Common.{arith}
use Rattle.exact.specs.Fraction.{Ratio, ◌≼◌, ◌≈◌, Above0, whole, ◌⊕◌, ◌⊗◌, ◌⊖◌, power}
use Rattle.exact.specs.Series.{exp_lower, exp_upper, one_over, exponent}
use Rattle.exact.specs.LnExp.{ln2_lower, ln_lower, ln_upper}
use Rattle.exact.proofs.laws.Equal.{≈-refl, ≈-trans, ⊗_cong, ⊗_cancel}
use Rattle.exact.proofs.laws.ExpSpread.{slack, spread_above}
use Rattle.exact.proofs.laws.Ln.{exponent_most, argument_below_third, ln_lower_upper}
use Rattle.exact.proofs.laws.LnSeries.{series_lower_mono}
use Rattle.exact.proofs.laws.LogAbove.{above_power, ln_reaches, reaches_times}
use Rattle.exact.proofs.laws.LogBelow.{exp_ln_below}
use Rattle.exact.proofs.laws.Octaves.{ln2_below_one}
use Rattle.exact.proofs.laws.Ratio.{one_times, ≼_refl, ≼_trans, to≼, from≼, ⊕-mono, ⊗_mono, ⊗_comm, ⊗_assoc, distrib, power_mono, above_one}
use Rattle.exact.specs.laws.Reduction.{Most}
use Rattle.exact.proofs.laws.Reduction.{room, most_upper, most_mono, most_times, least_times}
use Rattle.exact.specs.laws.Width.{half}
use Rattle.exact.proofs.laws.Width.{ninth, ln_width}

-- q (p/q L) = p L
cleared : (a L : Ratio) → whole a.den ⊗ (a ⊗ L) ≈ whole a.num ⊗ L
unfolding whole ◌⊗◌
cleared a L = omega arith

pub ln_most : (x : Ratio) → whole 1 ≼ x → (m : ℕ) → Most (ln_lower x m) x
ln_most x o m = record { all = exp_ln_below x o m }

-- l^q ≤ x^p
pub power_lower : (a x : Ratio) → whole 1 ≼ x → (m n : ℕ) → power (exp_lower (a ⊗ ln_lower x m) n) a.den ≼ power x a.num
power_lower a x o m n =
    ≼_trans (least_times {t = n} (record { begin = ≼_refl (exp_lower (a ⊗ ln_lower x m) n) }) a.den).begin
    ((most_mono (to≼ (cleared a (ln_lower x m))) (most_times (ln_most x o m) a.num) (≼_refl _)).all _)

-- x^p ≤ u^q
pub power_upper : (a x : Ratio) (o : whole 1 ≼ x) (m n : ℕ) (h : Above0 (whole (suc n) ⊖ a ⊗ ln_upper x o m))
    → power x a.num ≼ power (exp_upper (a ⊗ ln_upper x o m) n h) a.den
power_upper a x o m n h =
    (reaches_times (above_one o) (ln_reaches x o m) a.num).all _
    (most_mono (from≼ (cleared a (ln_upper x o m))) (most_times (most_upper _ n h) a.den) (≼_refl _))

-- Comparison of powers

pub dec≼ : (x y : Ratio) → Dec (x ≼ y)
dec≼ x y = elim (dec_le (x.num * y.den) (y.num * x.den)) [ yes h ↦ yes (record { cross = h }) | no h ↦ no (λ l. h l.cross) ]

larger_above : (x y : Ratio) → ¬ (x ≼ y) → Above0 x
larger_above x y h = go (dec_le (x.num * y.den) (y.num * x.den))
  where
    above : (n : ℕ) → ¬ (n * y.den ≤ y.num * x.den) → 0 < n
    above zero k = absurd (k (omega arith))
    above (suc n) k = omega arith

    go : Dec (x.num * y.den ≤ y.num * x.den) → Above0 x
    go (yes l) = absurd (h (record { cross = l }))
    go (no l) = record { above = above x.num l }

larger_below : (x y : Ratio) → ¬ (x ≼ y) → y ≼ x
larger_below x y h = go (dec_le (x.num * y.den) (y.num * x.den))
  where
    go : Dec (x.num * y.den ≤ y.num * x.den) → y ≼ x
    go (yes l) = absurd (h (record { cross = l }))
    go (no l) = omega arith

reduce : (x y : Ratio) (q : ℕ) → power x (suc q) ≼ power y (suc q) → y ≼ x → power x q ⊗ x ≼ power x q ⊗ y
unfolding power
reduce x y q h l = ≼_trans (to≼ (⊗_comm (power x q) x)) (≼_trans h (≼_trans (⊗_mono (≼_refl y) (power_mono l q)) (to≼ (⊗_comm y (power x q)))))

-- x^q ≤ y^q gives x ≤ y
pub power_cancel : (x y : Ratio) (q : ℕ) → 0 < q → power x q ≼ power y q → x ≼ y
power_cancel x y zero z h = absurd (omega arith)
power_cancel x y (suc q) z h = go (dec≼ x y)
  where
    go : Dec (x ≼ y) → x ≼ y
    go (yes l) = l
    go (no l) = ⊗_cancel (power x q) (above_power (larger_above x y l) q) (reduce x y q h (larger_below x y l))

unit : whole 1 ≈ whole 1 ⊗ whole 1
unfolding whole ◌⊗◌
unit = omega arith

four : (x y P Q : Ratio) → x ⊗ y ⊗ (P ⊗ Q) ≈ x ⊗ P ⊗ (y ⊗ Q)
unfolding ◌⊗◌
four x y P Q = omega arith

pub product_power : (x y : Ratio) (q : ℕ) → power (x ⊗ y) q ≈ power x q ⊗ power y q
unfolding power
product_power x y zero = unit
product_power x y (suc q) = ≈-trans (⊗_cong (≈-refl (x ⊗ y)) (product_power x y q)) (four x y (power x q) (power y q))

-- How near the ends are

one_more : (k : ℕ) → whole k ⊗ whole 1 ⊕ whole 1 ≼ whole (suc k)
unfolding whole ◌⊕◌ ◌⊗◌
one_more k = omega arith

-- ln x ≤ 2 (k + 1), x in the octave k
ln_lower_octave : (x : Ratio) (n : ℕ) → ln_lower x n ≼ whole (suc (exponent x))
unfolding ln_lower ln2_lower
ln_lower_octave x n =
    ≼_trans (⊕-mono (⊗_mono (≼_refl _) (ln2_below_one n)) (≼_trans (series_lower_mono (argument_below_third x) n) (ln2_below_one n))) (one_more (exponent x))

quarter : ninth ≼ half ⊗ half
unfolding ninth half one_over ◌⊗◌
quarter = omega arith

ninth_powers : (n : ℕ) → power ninth n ≼ power half n ⊗ power half n
unfolding power
ninth_powers zero = to≼ unit
ninth_powers (suc n) = ≼_trans (⊗_mono quarter (ninth_powers n)) (to≼ (four half half (power half n) (power half n)))

half_product : (x : Ratio) → x ≼ whole 1 → half ⊗ x ≼ whole 1
unfolding half one_over whole ◌⊗◌
half_product x h = omega arith

pub half_below_one : (n : ℕ) → power half n ≼ whole 1
unfolding power
half_below_one zero = ≼_refl (whole 1)
half_below_one (suc n) = half_product (power half n) (half_below_one n)

ninth_below_one : (n : ℕ) → power ninth n ≼ whole 1
ninth_below_one n = ≼_trans (ninth_powers n) (≼_trans (⊗_mono (half_below_one n) (half_below_one n)) (from≼ unit))

pub half_falls : (k n : ℕ) → k ≤ n → power half n ≼ power half k
unfolding power
half_falls zero n l = half_below_one n
half_falls (suc k) zero l = absurd (omega arith)
half_falls (suc k) (suc n) l = ⊗_mono (≼_refl half) (half_falls k n (omega arith))

-- c/2^c ≤ 1

none : whole 0 ⊗ whole 1 ≼ whole 1
unfolding whole ◌⊗◌
none = omega arith

half_step : (c : ℕ) (P : Ratio) → P ≼ whole 1 → whole c ⊗ P ≼ whole 1 → whole (suc c) ⊗ (half ⊗ P) ≼ whole 1
unfolding half one_over whole ◌⊗◌
half_step c P h k = omega (arith, h.cross, k.cross)

twice : (a : Ratio) (j : ℕ) → a ⊗ (whole j ⊕ whole j ⊗ whole 1) ≼ whole 2 ⊗ (a ⊗ whole j)
unfolding whole ◌⊕◌ ◌⊗◌
twice a j = omega arith

doubled : {y : Ratio} (c : ℕ) → y ≼ whole c → whole 2 ⊗ y ≼ whole (2 * c)
unfolding whole ◌⊗◌
doubled {y} c h = omega (arith, h.cross)

pub half_times : (c : ℕ) → whole c ⊗ power half c ≼ whole 1
unfolding power
half_times zero = none
half_times (suc c) = half_step c (power half c) (half_below_one c) (half_times c)

-- c/9^n ≤ 2^-k, for c and k at most n
pub remainder : (c k n : ℕ) → c ≤ n → k ≤ n → whole c ⊗ power ninth n ≼ power half k
remainder c k n l m =
    ≼_trans (⊗_mono (≼_refl (whole c)) (≼_trans (ninth_powers n) (⊗_mono (half_falls c n l) (half_falls k n m))))
    (≼_trans (from≼ (⊗_assoc (whole c) (power half c) (power half k))) (≼_trans (⊗_mono (half_times c) (≼_refl _)) (to≼ (one_times (power half k)))))

module _ (a x : Ratio) (o : whole 1 ≼ x) (c k n : ℕ) (b : a ⊗ whole (suc (exponent x)) ≼ whole c) (l : suc (4 * c + k) ≤ n) where
  -- (p/q) ln x moves by at most 2^-k from its lower to its upper end
  argument_near : a ⊗ ln_upper x o n ≼ a ⊗ ln_lower x n ⊕ power half k
  argument_near =
      ≼_trans (⊗_mono (≼_refl a) (ln_width x o n))
      (≼_trans (to≼ (distrib a _ _))
      (⊕-mono (≼_refl _) (≼_trans (from≼ (⊗_assoc a _ _)) (≼_trans (⊗_mono b (≼_refl _)) (remainder c k n (omega arith) (omega arith))))))

  argument_bound : a ⊗ ln_upper x o n ≼ whole (2 * c)
  argument_bound =
      ≼_trans (⊗_mono (≼_refl a) (≼_trans (ln_width x o n) (⊕-mono (ln_lower_octave x n) (⊗_mono (≼_refl _) (ninth_below_one n)))))
      (≼_trans (twice a (suc (exponent x))) (doubled c b))

  -- the upper end is there
  pub power_there : Above0 (whole (suc n) ⊖ a ⊗ ln_upper x o n)
  power_there = room _ (2 * c) n argument_bound (omega arith)

  -- u (1 - 2^-k) ≤ l (1 + 2^-k)
  pub power_near : (g : Above0 (whole (suc n) ⊖ a ⊗ ln_upper x o n))
      → exp_upper (a ⊗ ln_upper x o n) n g ⊗ (whole 1 ⊖ power half k) ≼ exp_lower (a ⊗ ln_lower x n) n ⊗ slack k
  power_near g =
      spread_above (power half k) (2 * c) k n (omega arith) (a ⊗ ln_lower x n) (a ⊗ ln_upper x o n)
      (⊗_mono (≼_refl a) (ln_lower_upper x o n n)) argument_near argument_bound g

pub whole_bound : (x : Ratio) (m : ℕ) → x ≼ whole m → x.num ≤ m * x.den
unfolding whole
whole_bound x m h = omega arith

-- x ≤ 2^K lies in an octave up to K
pub exponent_bound : (x : Ratio) → whole 1 ≼ x → (K : ℕ) → x ≼ whole (2 ^ K) → exponent x ≤ K
exponent_bound x o K h = exponent_most x o K (whole_bound x (2 ^ K) h)
