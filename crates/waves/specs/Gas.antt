-- What the functions of a gas detonation ask of an interval of ln R, and what they promise of their results (document 01, "Wave
-- formulas"). The interval ends are open but for that.
use Rattle.std.specs.Prelude.{ℕ, ◌+◌, ◌*◌, ◌^◌, ◌≤◌}
use Rattle.exact.specs.Formula.{Formula, ln}
use Rattle.span.specs.declared.Span.{Span}
use Rattle.span.specs.Spans.{Normal, Width}
use Rattle.span.specs.Enclosing.{Encloses}
use Rattle.fixed.specs.declared.Log.{Log}
use Rattle.fixed.specs.Logs.{dn, Ordered, Narrow, Small, LogEncloses}
use Rattle.enclosure.specs.Promises.{enough}
use Rattle.guidance.specs.Waves.{gas_pressure, gas_impulse}
use Rattle.waves.specs.EndBounds.{UpperAtLeast}

-- ln R within -5 and 5, and narrow
pub record Logged (l : Log) : Type 0 where
  pub ordered : Ordered l
  pub narrow : Narrow l (2 ^ 15)
  pub small : Small l (5 * 2 ^ 30)

-- from -1.67 up
pub record Near (l : Log) : Type 0 where
  pub logged : Logged l
  pub near : 100 * dn l.hi ≤ 167 * 2 ^ 30

-- ln R of a reduced distance
pub record LogDistance (r : Span) (l : Log) : Type 0 where
  pub encloses : (x : Formula) (n : ℕ) → enough ≤ n → Encloses r x n → LogEncloses l (ln x) n
  pub width : (D : ℕ) → Width r D → D ≤ 2 ^ 14 → Narrow l (D + 18)
  pub logged : Logged l
  pub near : UpperAtLeast r 19 100 → Near l

-- Px, up to 2^7
pub record GasPressure (l : Log) (s : Span) : Type 0 where
  pub normal : Normal s
  pub encloses : (x : Formula) (n : ℕ) → enough ≤ n → LogEncloses l (ln x) n → Encloses s (gas_pressure x) n
  pub width : (W : ℕ) → Narrow l W → Width s (5 * W + 55)
  pub least : 977 ≤ s.e
  pub most : s.e ≤ 1000

-- Ix, up to 2^5
pub record GasImpulse (l : Log) (s : Span) : Type 0 where
  pub normal : Normal s
  pub encloses : (x : Formula) (n : ℕ) → enough ≤ n → LogEncloses l (ln x) n → Encloses s (gas_impulse x) n
  pub width : (W : ℕ) → Narrow l W → Width s (2 * W + 34)
  pub least : 979 ≤ s.e
  pub most : s.e ≤ 998
