-- The brackets of a formula: that there is one, that any two meet, and that they close on one number; N is from 1.
use Rattle.std.specs.Prelude.{ℕ, ◌≤◌, ◌≡◌}
use Rattle.std.proofs.Math.Option.{some}
use Rattle.exact.specs.Fraction.{whole, ◌⊑◌, of_ratio, one_f, ◌⊟◌, ◌⊠◌}
use Rattle.exact.specs.Bracket.{Bracket, Meet}
use Rattle.exact.specs.Formula.{Formula, bracket_at}

pub record HasBracket (x : Formula) : Type 0 where
  pub place : ℕ
  pub from_one : 1 ≤ place
  pub bracket : Bracket
  pub is : bracket_at x place ≡ some bracket

-- every bracket of x meets every other
pub record AnyTwoMeet (x : Formula) : Type 0 where
  pub meet : (m n : ℕ) → 1 ≤ m → 1 ≤ n → (A B : Bracket) → bracket_at x m ≡ some A → bracket_at x n ≡ some B → Meet A B

-- from every place on x has brackets as narrow as one asks for: k times the width is at most 1
pub record Closes (x : Formula) : Type 0 where
  pub narrow : (m k : ℕ) → (there : HasBracket x) × (m ≤ there.place) × (of_ratio (whole k) ⊠ (there.bracket.hi ⊟ there.bracket.lo) ⊑ one_f)
