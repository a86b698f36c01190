-- What is the smaller in Pa is the smaller by Px, and in Pa·s by Ix: the scale multiplies both figures by the same numbers. Assumes nothing.
use Rattle.std.specs.Prelude.{ℕ}
use Rattle.exact.specs.Fraction.{whole}
use Rattle.exact.specs.Formula.{Formula}
use Rattle.exact.specs.Smaller.{IsSmaller}
use Rattle.exact.proofs.laws.Scaling.{fraction_from_0, exp_from_0, without_factor, without_divisor}
use Rattle.guidance.specs.declared.Case.{Case}
use Rattle.guidance.specs.Waves.{number, in_pascals, in_pascal_seconds}

module _ (air : ℕ) (x y : Formula) where
  pub smaller_by_pressure : IsSmaller (in_pascals air x) (in_pascals air y) → IsSmaller x y
  unfolding in_pascals
  smaller_by_pressure s = without_factor x y (number (whole air)) (fraction_from_0 (whole air)) s

  pub smaller_by_impulse : (c : Case) → IsSmaller (in_pascal_seconds air c x) (in_pascal_seconds air c y) → IsSmaller x y
  unfolding in_pascal_seconds
  smaller_by_impulse c s = without_factor x y _ (exp_from_0 _) (without_factor _ _ _ (exp_from_0 _) (without_divisor _ _ _ s))
