-- The middle lies strictly between ends that are no neighbours. Assumes nothing.
use Rattle.std.specs.Prelude.{ℕ, ◌-◌, ◌<◌}
use Rattle.std.proofs.Common.{arith}
use Rattle.bisection.specs.Bisection.{middle, Inside}

pub inside : (a b : ℕ) → 1 < b - a → Inside a b (middle a b)
inside a b h = record { above = omega arith; below = omega arith }
