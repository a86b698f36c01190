-- Quotients r/t^(p/q): an exact comparison of r^q with c^q t^p bounds the N-th bracket of the quotient, for every N from a
-- constant on. `cube_root_quotient` is the case of the reduced distance r/(E/P0)^(1/3). Assumes nothing.
use Rattle.std.specs.Prelude.{ℕ, ◌+◌, ◌^◌, ◌≤◌}
use Rattle.std.proofs.Math.Option.{some}
use Rattle.std.proofs.Common.{arith}
use Rattle.exact.specs.Fraction.{Ratio, ◌≼◌, ◌≈◌, Above0, whole, ◌⊗◌, ◌⊖◌, recip, power, Frac, of_ratio, magnitude}
use Rattle.exact.specs.Series.{one_over, third}
use Rattle.exact.specs.Formula.{const, div, bracket_at, power_of}
use Rattle.exact.specs.laws.Containment.{Inside}
use Rattle.exact.proofs.laws.EndsMeet.{of_ratio_mono}
use Rattle.exact.proofs.laws.Equal.{≈-refl, ⊗_cancel}
use Rattle.exact.proofs.laws.ExpSpread.{slack}
use Rattle.exact.proofs.laws.Frac.{⊑_trans}
use Rattle.exact.proofs.laws.Points.{point, pair, point_inside, signed_above, signed_least, signed_most, signed_product, product_signed, positive_of, inverse_least, inverse_most}
use Rattle.exact.proofs.laws.Power.{power_cancel}
use Rattle.exact.proofs.laws.PowerEnds.{PowerEnds, power_ends, slack_above, less_above, ends_below, ends_above}
use Rattle.exact.proofs.laws.Ratio.{shift, ≼_refl, ≼_trans, to≼, from≼, ⊗_mono, ⊗_comm, above_mono}
use Rattle.exact.proofs.laws.Inclusion.{div_inside}
use Rattle.exact.specs.laws.Width.{half}

-- A quotient r/t^(p/q)

pub quotient_least : (L r x : Ratio) (h : Above0 x) → L ⊗ x ≼ r → L ≼ r ⊗ recip x h
unfolding recip ◌⊗◌
quotient_least L r x h l = omega arith

pub quotient_most : (U r x : Ratio) (h : Above0 x) → r ≼ U ⊗ x → r ⊗ recip x h ≼ U
unfolding recip ◌⊗◌
quotient_most U r x h l = omega arith

swap_in : (L h w : Ratio) → w ⊗ (L ⊗ h) ≈ L ⊗ w ⊗ h
unfolding ◌⊗◌
swap_in L h w = omega arith

module _ (a : Ratio) (t : Frac) (k n : ℕ) (e : PowerEnds a t k n) where
  pub ends_order : e.lo ≼ e.hi
  ends_order = power_cancel _ _ a.den a.positive (≼_trans e.lower e.upper)

  -- r/hi ≥ L and r/lo ≤ U
  pub quotient_inside : (r L U : Ratio) → L ⊗ e.hi ≼ r → r ≼ U ⊗ e.lo
      → Inside (bracket_at (div (const (of_ratio r)) (power_of (of_ratio a) (const t))) n) (some (record { lo = of_ratio L; hi = of_ratio U }))
  quotient_inside r L U l u =
      let h : Above0 e.hi = above_mono e.above ends_order in
      div_inside (const (of_ratio r)) (power_of (of_ratio a) (const t)) n (point (of_ratio r)) (pair (of_ratio e.lo) (of_ratio e.hi))
      (pair (of_ratio (recip e.hi h)) (of_ratio (recip e.lo e.above))) (pair (of_ratio L) (of_ratio U))
      (point_inside (of_ratio r) n) e.inside (positive_of _ e.above) (positive_of _ h) (inverse_least e.hi h) (inverse_most e.lo e.above)
      (signed_above r) (signed_above _)
      (⊑_trans (of_ratio_mono (quotient_least L r e.hi h l)) (signed_product r _)) (⊑_trans (product_signed r _) (of_ratio_mono (quotient_most U r e.lo e.above u)))

  -- c^q t^p ≤ r^q ≤ d^q t^p gives a bracket of r/t^(p/q) between any L a little below c and any U a little above d
  pub quotient_between : (r c d L U : Ratio) → Above0 (whole 1 ⊖ power half k)
      → power c a.den ⊗ power (magnitude t) a.num ≼ power r a.den → power r a.den ≼ power d a.den ⊗ power (magnitude t) a.num
      → L ⊗ slack k ≼ c ⊗ (whole 1 ⊖ power half k) → d ⊗ slack k ≼ U ⊗ (whole 1 ⊖ power half k)
      → Inside (bracket_at (div (const (of_ratio r)) (power_of (of_ratio a) (const t))) n) (some (record { lo = of_ratio L; hi = of_ratio U }))
  quotient_between r c d L U z h m f g =
      quotient_inside r L U
      (⊗_cancel (slack k) (slack_above k)
      (≼_trans (to≼ (swap_in L e.hi (slack k)))
      (≼_trans (⊗_mono f (≼_refl e.hi))
      (≼_trans (to≼ (shift c (whole 1 ⊖ power half k) e.hi)) (≼_trans (ends_below a t k n e c r h) (to≼ (⊗_comm r (slack k))))))))
      (⊗_cancel (whole 1 ⊖ power half k) z
      (≼_trans (to≼ (⊗_comm (whole 1 ⊖ power half k) r))
      (≼_trans (ends_above a t k n e d r m)
      (≼_trans (to≼ (shift d e.lo (slack k)))
      (≼_trans (⊗_mono g (≼_refl e.lo)) (from≼ (swap_in U e.lo (whole 1 ⊖ power half k))))))))

-- r/x^(1/3), for 2^-34 ≤ x ≤ 2^34 and N > 48 + k

third_bound : third ⊗ whole 35 ≼ whole 12
unfolding third one_over whole ◌⊗◌
third_bound = omega arith

third_powers : (c x : Ratio) → power c 3 ⊗ x ≈ power c third.den ⊗ power x third.num
unfolding third one_over power whole ◌⊗◌
third_powers c x = omega arith

third_power : (r : Ratio) → power r 3 ≈ power r third.den
unfolding third one_over
third_power r = ≈-refl (power r 3)

pub recip_below : (y : Ratio) (m : ℕ) (u : Above0 y) → whole 1 ≼ whole m ⊗ y → recip y u ≼ whole m
unfolding whole recip ◌⊗◌
recip_below y m u h = omega arith

recip_bound : (x : Ratio) (m : ℕ) → whole 1 ≼ whole m ⊗ x → (u : Above0 (magnitude (of_ratio x))) → recip (magnitude (of_ratio x)) u ≼ whole m
recip_bound x m h u = recip_below _ _ u (≼_trans h (⊗_mono (≼_refl (whole m)) (signed_least x)))

pub cube_root_ends : (x : Ratio) → Above0 x → x ≼ whole (2 ^ 34) → whole 1 ≼ whole (2 ^ 34) ⊗ x
    → (k n : ℕ) → 49 + k ≤ n → PowerEnds third (of_ratio x) k n
cube_root_ends x p h l k n m =
    power_ends third (of_ratio x) (positive_of x p) 34 12 k n (≼_trans (signed_most x) h) (recip_bound x (2 ^ 34) l) third_bound (omega arith)

-- c³ x ≤ r³ ≤ d³ x gives a bracket between any L a little below c and any U a little above d
pub cube_root_quotient : (x r : Ratio) → Above0 x → x ≼ whole (2 ^ 34) → whole 1 ≼ whole (2 ^ 34) ⊗ x → (k : ℕ) → 1 ≤ k
    → (c d L U : Ratio) → L ⊗ slack k ≼ c ⊗ (whole 1 ⊖ power half k) → d ⊗ slack k ≼ U ⊗ (whole 1 ⊖ power half k)
    → power c 3 ⊗ x ≼ power r 3 → power r 3 ≼ power d 3 ⊗ x → (n : ℕ) → 49 + k ≤ n
    → Inside (bracket_at (div (const (of_ratio r)) (power_of (of_ratio third) (const (of_ratio x)))) n) (some (record { lo = of_ratio L; hi = of_ratio U }))
cube_root_quotient x r p h l k o c d L U f g i j n m =
    quotient_between third (of_ratio x) k n (cube_root_ends x p h l k n m) r c d L U (less_above k o)
    (≼_trans (from≼ (third_powers c _)) (≼_trans (⊗_mono (≼_refl (power c 3)) (signed_most x)) (≼_trans i (to≼ (third_power r)))))
    (≼_trans (from≼ (third_power r)) (≼_trans j (≼_trans (⊗_mono (≼_refl (power d 3)) (signed_least x)) (to≼ (third_powers d _)))))
    f g
