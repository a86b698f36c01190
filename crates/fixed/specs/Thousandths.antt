-- Laws of whole thousandths: rounded downward and upward they are a multiple of the interval by 1000 / 2^30, so that one law gives their order, width
-- and size; as fractions they lie around the interval. Assumes nothing.
use Rattle.std.specs.Prelude.{◌≡◌, ℕ, ◌+◌, ◌*◌, ◌^◌, ◌≤◌, ℤ}
use Rattle.std.proofs.Common.{arith}
use Rattle.exact.specs.Formula.{Formula, bracket_at}
use Rattle.exact.specs.laws.Pairs.{◌⊆◌}
use Rattle.exact.proofs.laws.Containment.{contains_holds, inside_wider}
use Rattle.exact.specs.Holding.{Holds}
use Rattle.fixed.specs.declared.Log.{Log}
use Rattle.fixed.specs.FloorAndCeiling.{up, dn}
use Rattle.fixed.specs.Logs.{fixed, bracket, Ordered, Narrow, Small, LogEncloses}
use Rattle.fixed.specs.Promises.{Scaled}
use Rattle.fixed.specs.Millis.{floor_milli, ceil_milli, milli, millis}
use Rattle.fixed.specs.Multiples.{downward, upward, scaled}

-- l and u are the thousandths of y, and what follows of them
pub record Thousandths (y : Log) (l u : ℤ) : Type 0 where
  pub around : bracket y ⊆ millis l u
  pub ordered : up l + dn u ≤ up u + dn l
  pub narrow : (W : ℕ) → Narrow y W → W * 1000 ≤ 2 ^ 30 → up u + dn l ≤ up l + dn u + 2
  pub small : (M N : ℕ) → Small y M → M * 1000 ≤ N * 2 ^ 30 → Small (record { lo = l; hi = u }) N

module _ {y : Log} {l u : ℤ} (v : Ordered y) (d : l ≡ floor_milli y) (e : u ≡ ceil_milli y) where
  pub milli_around : bracket y ⊆ millis l u
  unfolding bracket fixed millis milli floor_milli ceil_milli
  milli_around =
      let lower = downward 1000 (2 ^ 30) y.lo (omega arith) d in
      let upper = upward 1000 (2 ^ 30) y.hi (omega arith) e in
      record { above = record { cross = omega (arith, lower.low) }; below = record { cross = omega (arith, upper.low) } }

  multiple : Scaled 1000 (2 ^ 30) y (record { lo = l; hi = u })
  unfolding floor_milli ceil_milli
  multiple = scaled 1000 (2 ^ 30) y _ (omega arith) v d e

  pub thousandths : Thousandths y l u
  thousandths =
      record {
        around = milli_around;
        ordered = multiple.ordered.ordered;
        narrow = λ W w k. (multiple.width W 1 w (omega arith)).narrow;
        small = multiple.small;
      }

-- the interval from l to u thousandths holds what the Log encloses
pub millis_hold : {y : Log} {l u : ℤ} {x : Formula} {n : ℕ} → Thousandths y l u → 1 ≤ n → LogEncloses y x n → Holds (millis l u) x
millis_hold {x = x} {n = n} t o h = contains_holds x n o _ (inside_wider (bracket_at x n) t.around h.inside)
