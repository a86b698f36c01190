-- What the probits ask of the enclosures of overpressure and impulse, and what they promise: the two ends in thousandths hold the exact
-- value of the guidance's formula, and are at most 2 apart. The ends are open but for that. Assumes nothing.
use Rattle.std.specs.Prelude.{ℕ, ◌+◌, ◌^◌, ◌≤◌, ◌<◌, ℤ}
use Rattle.exact.specs.Formula.{Formula}
use Rattle.exact.specs.Holding.{Holds}
use Rattle.span.specs.declared.Span.{Span}
use Rattle.span.specs.Spans.{Normal, Width}
use Rattle.span.specs.Enclosing.{Encloses}
use Rattle.fixed.specs.FloorAndCeiling.{up, dn}
use Rattle.fixed.specs.Millis.{millis}
use Rattle.enclosure.specs.Promises.{enough}
use Rattle.guidance.specs.Cases.{Air}
use Rattle.layout.specs.declared.Five.{Five}
use Rattle.layout.specs.declared.Interval.{Interval}
use Rattle.guidance.specs.Probits.{probit1_at, probit2_at, probit3_at, probit4_at, probit5_at}

-- an overpressure from 2^-14 up to 2^31 Pa, within 2^-19 of itself
pub record Pressure (s : Span) : Type 0 where
  pub normal : Normal s
  pub narrow : Width s 2048
  pub least : 980 ≤ s.e
  pub most : s.e ≤ 1024

-- an impulse from 2^-42 up to 2^31 Pa·s, within 2^-19 of itself
pub record Impulse (s : Span) : Type 0 where
  pub normal : Normal s
  pub narrow : Width s 2048
  pub least : 952 ≤ s.e
  pub most : s.e ≤ 1024

pub record Loaded (p i : Span) : Type 0 where
  pub pressure : Pressure p
  pub impulse : Impulse i

-- the air pressure in Pa and the body mass in kg
pub record Resisting (air body : ℕ) : Type 0 where
  pub within : Air air
  pub least : 1 ≤ body
  pub most : body ≤ 500

-- document 01: "upper - lower is at most 2 for a probit"; both ends fit 32 bits
pub record Thousandth (l u : ℤ) : Type 0 where
  pub ordered : up l + dn u ≤ up u + dn l
  pub narrow : up u + dn l ≤ up l + dn u + 2
  pub lower_up : up l < 2 ^ 31
  pub lower_dn : dn l < 2 ^ 31
  pub upper_up : up u < 2 ^ 31
  pub upper_dn : dn u < 2 ^ 31

-- of a formula f of the overpressure and the impulse: whatever formulas the two spans enclose
pub record ProbitOf (f : Formula → Formula → Formula) (p i : Span) (l u : ℤ) : Type 0 where
  pub holds : (x y : Formula) (n : ℕ) → enough ≤ n → Encloses p x n → Encloses i y n → Holds (millis l u) (f x y)
  pub closed : Thousandth l u

abbrev pub Probit1 : Span → Span → ℤ → ℤ → Type 0
Probit1 = ProbitOf probit1_at

abbrev pub Probit2 : Span → Span → ℤ → ℤ → Type 0
Probit2 = ProbitOf probit2_at

abbrev pub Probit3 : Span → Span → (air body : ℕ) → ℤ → ℤ → Type 0
Probit3 p i air body = ProbitOf (probit3_at air body) p i

abbrev pub Probit5 : Span → Span → ℤ → ℤ → Type 0
Probit5 = ProbitOf probit5_at

pub record Probit4 (p : Span) (l u : ℤ) : Type 0 where
  pub holds : (x : Formula) (n : ℕ) → enough ≤ n → Encloses p x n → Holds (millis l u) (probit4_at x)
  pub closed : Thousandth l u

-- the five together
pub record AllProbits (p i : Span) (air body : ℕ) (r : Five (Interval ℤ)) : Type 0 where
  pub first : Probit1 p i r.first.lower r.first.upper
  pub second : Probit2 p i r.second.lower r.second.upper
  pub third : Probit3 p i air body r.third.lower r.third.upper
  pub fourth : Probit4 p r.fourth.lower r.fourth.upper
  pub fifth : Probit5 p i r.fifth.lower r.fifth.upper
