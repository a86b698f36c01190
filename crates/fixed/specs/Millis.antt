-- Whole thousandths around an interval: downward from its lower end and upward from its upper end, also below zero (document 01, "What exact means":
-- an interval and a bracket meet, for a probit, in thousandths). Assumes nothing.
use Rattle.std.specs.Prelude.{◌^◌, ℤ, pos, ◌*ℤ◌}
use Rattle.std.proofs.Common.{arith}
use Rattle.exact.specs.Fraction.{Frac}
use Rattle.exact.specs.Bracket.{Bracket}
use Rattle.fixed.specs.declared.Log.{Log}
use Rattle.fixed.specs.FloorAndCeiling.{up, dn, floor_z, ceil_z}
use Rattle.fixed.specs.Logs.{Ordered, Small}

-- what is asked: both ends at most 2^20
pub record Countable (y : Log) : Type 0 where
  pub ordered : Ordered y
  pub small : Small y (2 ^ 50)

unfoldable pub floor_milli : Log → ℤ
floor_milli y = floor_z (y.lo *ℤ pos 1000) (2 ^ 30)

unfoldable pub ceil_milli : Log → ℤ
ceil_milli y = ceil_z (y.hi *ℤ pos 1000) (2 ^ 30)

-- z / 1000
unfoldable pub milli : ℤ → Frac
milli z = record { plus = up z; minus = dn z; den = 1000; positive = omega arith }

-- from l / 1000 to u / 1000
unfoldable pub millis : ℤ → ℤ → Bracket
millis l u = record { lo = milli l; hi = milli u }
