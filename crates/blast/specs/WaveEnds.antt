-- The two ends of an overpressure or an impulse, with the width rule of every promise (document 01, "The answer frame"; request 10).
use Rattle.std.specs.Prelude.{ℕ, ◌+◌, ◌*◌, ◌-◌, ◌^◌, ◌≤◌, ◌<◌, pos}
use Rattle.exact.specs.Formula.{Formula}
use Rattle.exact.specs.Between.{ExactBetween}
use Rattle.layout.specs.declared.Interval.{Interval}

-- the width rule, in Pa or in Pa·s (request 10): 100,000 × (upper - lower) is at most 200,000 + lower
abbrev pub Closed : (lower upper : ℕ) → Type 0
Closed lower upper = 100000 * (upper - lower) ≤ 200000 + lower

-- whole numbers that have the exact value of x between them, by the width rule
pub record WaveEnds (x : Formula) (e : Interval ℕ) : Type 0 where
  pub value : ExactBetween 1 x (pos e.lower) (pos e.upper)
  pub closed : Closed e.lower e.upper
  pub fits : e.upper < 2 ^ 32
