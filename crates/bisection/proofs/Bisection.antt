-- Bisection goes on between its ends, and ends at neighbours. Assumes nothing.
use Rattle.std.specs.Prelude.{ℕ, ◌+◌, ◌-◌, ◌≤◌, ◌<◌}
use Rattle.std.proofs.Common.{subst, arith}
use Rattle.bisection.specs.Bisection.{Between, middle}
use Rattle.bisection.proofs.Middle.{inside}

module _ (P Q : ℕ → Type 0) {a b : ℕ} (h : Between P Q a b) (t : 1 < b - a) where
  pub raised : P (middle a b) → Between P Q (middle a b) b
  raised p = record { order = (inside a b t).below; low = p; high = h.high }

  pub lowered : Q (middle a b) → Between P Q a (middle a b)
  lowered q = record { order = (inside a b t).above; low = h.low; high = q }

-- neighbours
pub closed : (P Q : ℕ → Type 0) {a b : ℕ} → Between P Q a b → b - a ≤ 1 → Q (a + 1)
closed P Q {a} {b} h t = subst Q (omega (arith, h.order)) h.high
