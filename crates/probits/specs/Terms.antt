-- What the terms of the probits ask and promise: powers of ratios, roots, sums and their logarithms. Assumes nothing.
use Rattle.std.specs.Prelude.{ℕ, ◌*◌, ◌^◌, ◌≤◌, ◌<◌, ◌≡◌, ℤ}
use Rattle.exact.specs.Fraction.{Ratio, whole}
use Rattle.exact.specs.Formula.{Formula, add, sub, mul, div, ln}
use Rattle.exact.specs.Holding.{Holds}
use Rattle.span.specs.declared.Span.{Span}
use Rattle.span.specs.Spans.{Normal, Width}
use Rattle.span.specs.Enclosing.{Encloses}
use Rattle.fixed.specs.declared.Log.{Log}
use Rattle.fixed.specs.Logs.{Ordered, Narrow, Small, LogEncloses}
use Rattle.fixed.specs.Millis.{millis}
use Rattle.enclosure.specs.Promises.{enough}
use Rattle.guidance.specs.Cases.{Air}
use Rattle.guidance.specs.Waves.{number, tenths, raised, half, third}
use Rattle.probits.specs.declared.coefficients.Strength.{Strength}
use Rattle.probits.specs.Promises.{Pressure, Thousandth}

-- (a/x)^(t/10)

pub record Based (a x : Span) (t : ℕ) : Type 0 where
  pub left : Normal a
  pub exact : Width a 1
  pub least : 1000 ≤ a.e
  pub most : a.e ≤ 1010
  pub right : Normal x
  pub narrow : Width x 2048
  pub lower : 952 ≤ x.e
  pub upper : x.e ≤ 1024
  pub tenths : t ≤ 113

pub record RatioPower (a x : Span) (t : ℕ) (r : Span) : Type 0 where
  pub normal : Normal r
  pub encloses : (y z : Formula) (n : ℕ) → enough ≤ n → Encloses a y n → Encloses x z n → Encloses r (raised (tenths t) (div y z)) n
  pub width : Width r 24000
  pub least : 200 ≤ r.e
  pub most : r.e ≤ 1800

-- n^(p/6)

pub record Rootable (n p : ℕ) : Type 0 where
  pub least : 1 ≤ n
  pub most : n < 2 ^ 17
  pub sixths : p ≤ 3

pub record Root (n p : ℕ) (r : Span) : Type 0 where
  pub normal : Normal r
  pub encloses : (q : Ratio) (m : ℕ) → q.num * 6 ≡ p * q.den → enough ≤ m → Encloses r (raised q (number (whole n))) m
  pub width : Width r 60
  pub least : 980 ≤ r.e
  pub most : r.e ≤ 1010

-- P0^(1/2)

pub record AirRoot (air : ℕ) (r : Span) : Type 0 where
  pub normal : Normal r
  pub encloses : (n : ℕ) → enough ≤ n → Encloses r (raised half (number (whole air))) n
  pub width : Width r 60
  pub least : 980 ≤ r.e
  pub most : r.e ≤ 1010

-- thousandths

pub record Counted (y : Log) : Type 0 where
  pub ordered : Ordered y
  pub narrow : Narrow y (2 ^ 20)
  pub small : Small y (2 ^ 43)

pub record CountedIn (y : Log) (l u : ℤ) : Type 0 where
  pub holds : (x : Formula) (n : ℕ) → 1 ≤ n → LogEncloses y x n → Holds (millis l u) x
  pub closed : Thousandth l u

-- 5 - (k/10000) ln s

pub record Summed (s : Span) (k : ℕ) : Type 0 where
  pub normal : Normal s
  pub narrow : Width s 25000
  pub least : 190 ≤ s.e
  pub most : s.e ≤ 1810
  pub factor : k ≤ 57400

pub record FallingProbit (s : Span) (k : ℕ) (l u : ℤ) : Type 0 where
  pub holds : (q : Ratio) (x : Formula) (n : ℕ) → q.num * 10000 ≡ k * q.den → enough ≤ n → Encloses s x n
      → Holds (millis l u) (sub (number (whole 5)) (mul (number q) (ln x)))
  pub closed : Thousandth l u

-- 5 - (k/10000) ln[(a/ΔP)^(s/10) + (b/I)^(t/10)], of a strength

pub record Limit (a : Span) (t : ℕ) : Type 0 where
  pub normal : Normal a
  pub exact : Width a 1
  pub least : 1000 ≤ a.e
  pub most : a.e ≤ 1010
  pub tenths_most : t ≤ 113

pub record Strong (s : Strength) : Type 0 where
  pub pressure_limit : Limit s.pressure s.pressure_tenths
  pub impulse_limit : Limit s.impulse s.impulse_tenths
  pub factor_most : s.factor ≤ 57400

pub record Withstood (s : Strength) (p i : Span) (l u : ℤ) : Type 0 where
  pub holds : (q : Ratio) (a b x y : Formula) (n : ℕ) → q.num * 10000 ≡ s.factor * q.den → enough ≤ n
      → Encloses s.pressure a n → Encloses s.impulse b n → Encloses p x n → Encloses i y n
      → Holds (millis l u) (sub (number (whole 5)) (mul (number q) (ln (add (raised (tenths s.pressure_tenths) (div a x)) (raised (tenths s.impulse_tenths) (div b y))))))
  pub closed : Thousandth l u

-- 1.3·P0^(1/2)·m^(1/3)

pub record Resistance (air body : ℕ) (r : Span) : Type 0 where
  pub normal : Normal r
  pub encloses : (n : ℕ) → enough ≤ n
      → Encloses r (mul (mul (number (tenths 13)) (raised half (number (whole air)))) (raised third (number (whole body)))) n
  pub width : Width r 200
  pub least : 960 ≤ r.e
  pub most : r.e ≤ 1030

-- 4.2/(1 + ΔP/P0)

pub record Lunged (p : Span) (air : ℕ) : Type 0 where
  pub pressure : Pressure p
  pub within : Air air

pub record LungPressure (p : Span) (air : ℕ) (r : Span) : Type 0 where
  pub normal : Normal r
  pub encloses : (x : Formula) (n : ℕ) → Encloses p x n
      → Encloses r (div (number (tenths 42)) (add (number (whole 1)) (div x (number (whole air))))) n
  pub width : Width r 2100
  pub least : 960 ≤ r.e
  pub most : r.e ≤ 1030
