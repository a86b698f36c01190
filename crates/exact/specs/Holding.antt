-- In what terms the crates below the answer promise: a fraction in a bracket, and an interval that holds the exact value of a formula.
use Rattle.std.specs.Prelude.{ℕ, ◌≤◌, ◌≡◌}
use Rattle.std.proofs.Math.Option.{some}
use Rattle.exact.specs.Fraction.{Frac, ◌⊑◌}
use Rattle.exact.specs.Bracket.{Bracket, Meet}
use Rattle.exact.specs.Formula.{Formula, bracket_at}
use Rattle.exact.specs.Exact.{HasBracket}

infix 40 ◌∈◌
pub record ◌∈◌ (x : Frac) (B : Bracket) : Type 0 where
  pub above : B.lo ⊑ x
  pub below : x ⊑ B.hi

-- the ends of I are in order, I meets every bracket of x, and there is one
pub record Holds (I : Bracket) (x : Formula) : Type 0 where
  pub ordered : I.lo ⊑ I.hi
  pub meets : (n : ℕ) → 1 ≤ n → (B : Bracket) → bracket_at x n ≡ some B → Meet I B
  pub there : HasBracket x
