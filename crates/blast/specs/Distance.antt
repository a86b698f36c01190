-- The reduced distance Rx = r/(E/P0)^(1/3): where the exact test on its cube says that it is not nearer than T, its N-th brackets lie
-- between a little below T and 24.1, for every N from 59 on; and so do the ends of a span around them. Assumes nothing.
use Rattle.std.specs.Prelude.{ℕ, zero, suc, ◌≤◌, ◌≡◌, false}
use Rattle.std.proofs.Math.Option.{some}
use Rattle.std.proofs.Common.{arith}
use Rattle.exact.specs.Fraction.{Ratio, ◌≼◌, ◌≈◌, Above0, whole, ◌⊕◌, ◌⊗◌, ◌⊖◌, recip, power, of_ratio}
use Rattle.exact.specs.Series.{one_over, third}
use Rattle.exact.specs.Formula.{div, bracket_at, power_of}
use Rattle.exact.proofs.laws.Ratio.{≼_refl, ≼_trans, to≼, from≼, ⊗_mono}
use Rattle.exact.specs.laws.Width.{half}
use Rattle.exact.proofs.laws.ExpSpread.{slack}
use Rattle.exact.specs.laws.Containment.{Inside}
use Rattle.exact.proofs.laws.Points.{pair}
use Rattle.exact.proofs.laws.Quotient.{cube_root_quotient}
use Rattle.guidance.specs.declared.Case.{Case}
use Rattle.guidance.specs.Clouds.{over}
use Rattle.guidance.specs.Distances.{metres, nearer, cube02, cube025, cube034, cube24}
use Rattle.guidance.specs.Waves.{number, raised, thousandths, reduced_distance}
use Rattle.guidance.specs.Cases.{Air, Accepted}
use Rattle.guidance.proofs.laws.Domain.{heated, air_above, per_air, per_air_above, per_air-least, per_air-most, cube_least, cube_most, cube_is_02, cube_is_025, cube_is_034, cube_is_24}
use Rattle.exact.proofs.laws.Replacing.{Within, value_within, ratio_within, within_refl, mul_within, div_within, ln_within, exp_within, within_inside}

-- E/P0 is a fraction

third_is : over 1 3 (omega arith) ≈ third
unfolding third one_over
third_is = omega arith

-- r/(x/y)^(1/3), with x/y as one constant
quotient_within : (r x y : Ratio) (h : Above0 y) (k : ℕ)
    → Within (div (number r) (raised (over 1 3 (omega arith)) (div (number x) (number y)))) (div (number r) (power_of (of_ratio third) (number (x ⊗ recip y h)))) (suc k)
quotient_within r x y h k =
    div_within (within_refl (number r) (suc k))
    (exp_within (mul_within (value_within third_is (suc k)) (ln_within (ratio_within x y h (suc k)))))

-- The brackets of Rx

-- u is the distance whose cube is t, and l a little less
pub record Threshold (t u l : Ratio) : Type 0 where
  pub cube : power u 3 ≈ t
  pub less : l ⊗ slack 10 ≼ u ⊗ (whole 1 ⊖ power half 10)

high : whole 24 ⊗ slack 10 ≼ thousandths 24100 ⊗ (whole 1 ⊖ power half 10)
unfolding half one_over power whole ◌⊕◌ ◌⊖◌ ◌⊗◌
high = omega arith

module _ {air : ℕ} {c : Case} (a : Air air) (g : Accepted air c) {t u l : Ratio} (h : Threshold t u l) (far : nearer t air c ≡ false) where
  between : (k : ℕ) → 59 ≤ suc k → Inside (bracket_at (reduced_distance air c) (suc k)) (some (pair (of_ratio l) (of_ratio (thousandths 24100))))
  unfolding reduced_distance per_air
  between k i =
      within_inside _ (quotient_within (metres c) _ (whole air) (air_above a) k)
      (cube_root_quotient (per_air a c) (metres c) (per_air_above a c (heated g)) (per_air-most a c (heated g)) (per_air-least a c (heated g))
      10 (omega arith) u (whole 24) l (thousandths 24100) h.less high
      (≼_trans (⊗_mono (to≼ h.cube) (≼_refl (per_air a c))) (cube_least a c t far))
      (≼_trans (cube_most a c cube24 g.within) (⊗_mono (from≼ cube_is_24) (≼_refl (per_air a c))))
      (suc k) i)

  pub distance_between : (n : ℕ) → 59 ≤ n → Inside (bracket_at (reduced_distance air c) n) (some (pair (of_ratio l) (of_ratio (thousandths 24100))))
  distance_between zero i = absurd (omega arith)
  distance_between (suc k) i = between k i

pub from_02 : Threshold cube02 (over 2 10 (omega arith)) (thousandths 199)
unfolding half one_over power whole ◌⊕◌ ◌⊖◌ ◌⊗◌
from_02 = record { cube = cube_is_02; less = omega arith }

pub from_025 : Threshold cube025 (over 25 100 (omega arith)) (thousandths 249)
unfolding half one_over power whole ◌⊕◌ ◌⊖◌ ◌⊗◌
from_025 = record { cube = cube_is_025; less = omega arith }

pub from_034 : Threshold cube034 (over 34 100 (omega arith)) (thousandths 339)
unfolding half one_over power whole ◌⊕◌ ◌⊖◌ ◌⊗◌
from_034 = record { cube = cube_is_034; less = omega arith }
