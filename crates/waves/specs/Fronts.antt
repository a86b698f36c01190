-- What is promised of the front speed by the speed range and the mass. The interval ends are open but for that.
use Rattle.std.specs.Prelude.{cond, ℕ, ◌≤◌, eqb}
use Rattle.exact.specs.Fraction.{whole}
use Rattle.exact.specs.Formula.{Formula}
use Rattle.span.specs.declared.Span.{Span}
use Rattle.span.specs.Spans.{Normal, Width}
use Rattle.span.specs.Enclosing.{Encloses}
use Rattle.enclosure.specs.Promises.{enough}
use Rattle.guidance.specs.Waves.{number, raised, sixth, kilograms}
use Rattle.waves.specs.EndBounds.{LowerAtMost}
use Rattle.waves.specs.Deflagration.{Speed}

-- the masses of a case, grams
pub record Mass (mass : ℕ) : Type 0 where
  pub least : 1 ≤ mass
  pub most : mass ≤ 1000000000

-- M^(1/6), from 1/4 to 11
pub record SixthRoot (mass : ℕ) (s : Span) : Type 0 where
  pub normal : Normal s
  pub encloses : (n : ℕ) → enough ≤ n → Encloses s (raised sixth (number (kilograms mass))) n
  pub width : Width s 36
  pub least : 991 ≤ s.e
  pub most : LowerAtMost s 11 1

-- 43 or 26
pub record Factor (range : ℕ) (s : Span) : Type 0 where
  pub normal : Normal s
  pub encloses : (n : ℕ) → Encloses s (number (whole (cond (eqb range 5) 43 26))) n
  pub width : Width s 1
  pub least : 998 ≤ s.e
  pub most : LowerAtMost s 43 1

-- a front speed that `mach` takes
pub record Front (x : Formula) (v : Span) : Type 0 where
  pub encloses : (n : ℕ) → enough ≤ n → Encloses v x n
  pub width : Width v 39
  pub speed : Speed v
