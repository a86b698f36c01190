-- What a `Log` stands for: its bracket of fractions, its order, its width and its size, and that it contains the n-th bracket of a formula.
-- Assumes nothing.
use Rattle.std.specs.Prelude.{ℕ, ◌+◌, ◌-◌, ◌^◌, ◌≤◌, ℤ}
use Rattle.std.proofs.Math.Option.{some}
use Rattle.std.proofs.Common.{pow_pos}
use Rattle.exact.specs.Fraction.{Frac}
use Rattle.exact.specs.Bracket.{Bracket}
use Rattle.exact.specs.Formula.{Formula, bracket_at}
use Rattle.exact.specs.laws.Containment.{Inside}
use Rattle.fixed.specs.declared.Log.{Log}
pub use Rattle.fixed.specs.FloorAndCeiling.{up, dn}

-- (a - b) / 2^30
unfoldable pub fixed : ℕ → ℕ → Frac
fixed a b = record { plus = a; minus = b; den = 2 ^ 30; positive = pow_pos 30 }

-- z / 2^30
abbrev pub fixed_z : ℤ → Frac
fixed_z z = fixed (up z) (dn z)

-- the bracket that an interval stands for: `p ∈ bracket r` says that the fraction p lies in r
unfoldable pub bracket : Log → Bracket
bracket r = record { lo = fixed_z r.lo; hi = fixed_z r.hi }

-- hi - lo, where that is not negative
abbrev pub apart : ℤ → ℤ → ℕ
apart lo hi = up hi + dn lo - (up lo + dn hi)

-- lo ≤ hi
pub record Ordered (r : Log) : Type 0 where
  pub ordered : up r.lo + dn r.hi ≤ up r.hi + dn r.lo

-- no wider than W units: hi ≤ lo + W
pub record Narrow (r : Log) (W : ℕ) : Type 0 where
  pub narrow : up r.hi + dn r.lo ≤ up r.lo + dn r.hi + W

-- both ends within M units of 0
pub record Small (r : Log) (M : ℕ) : Type 0 where
  pub lo_up : up r.lo ≤ M
  pub lo_dn : dn r.lo ≤ M
  pub hi_up : up r.hi ≤ M
  pub hi_dn : dn r.hi ≤ M

-- r contains the n-th bracket of x
pub record LogEncloses (r : Log) (x : Formula) (n : ℕ) : Type 0 where
  pub inside : Inside (bracket_at x n) (some (bracket r))
