-- Two whole numbers that have an exact value between them (document 01, "What exact means").
use Rattle.std.specs.Prelude.{ℕ, suc, ◌≤◌, ◌≡◌, ℤ, pos, negsuc}
use Rattle.std.proofs.Math.Option.{some}
use Rattle.std.proofs.Common.{arith}
use Rattle.exact.specs.Fraction.{Frac, ◌⊑◌, ◌⊠◌}
use Rattle.exact.specs.Bracket.{Bracket, Meet}
use Rattle.exact.specs.Formula.{Formula, bracket_at}
use Rattle.exact.specs.Exact.{HasBracket, AnyTwoMeet, Closes}

-- a whole number as a fraction, and an interval of two
unfoldable pub whole_z : ℤ → Frac
whole_z (pos n) = record { plus = n; minus = 0; den = 1; positive = omega arith }
whole_z (negsuc n) = record { plus = 0; minus = suc n; den = 1; positive = omega arith }

abbrev pub wholes : ℤ → ℤ → Bracket
wholes l u = record { lo = whole_z l; hi = whole_z u }

-- a bracket with its ends times k
unfoldable pub times : ℕ → Bracket → Bracket
times k B = record { lo = whole_z (pos k) ⊠ B.lo; hi = whole_z (pos k) ⊠ B.hi }

-- k times the exact value of x lies from l to u: the interval meets the N-th bracket, its ends times k, for every N from 1 that has one;
-- some N has one; any two brackets of x meet; and they close on one number
pub record ExactBetween (k : ℕ) (x : Formula) (l u : ℤ) : Type 0 where
  pub ordered : whole_z l ⊑ whole_z u
  pub meets : (n : ℕ) → 1 ≤ n → (B : Bracket) → bracket_at x n ≡ some B → Meet (wholes l u) (times k B)
  pub there : HasBracket x
  pub agree : AnyTwoMeet x
  pub closes : Closes x
