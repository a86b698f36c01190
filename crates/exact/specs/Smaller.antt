-- Which of two values is the smaller, by their brackets (request 5); N is from 1.
use Rattle.std.specs.Prelude.{ℕ, ◌≤◌, ◌≡◌}
use Rattle.std.proofs.Math.Option.{some}
use Rattle.exact.specs.Fraction.{◌⊑◌}
use Rattle.exact.specs.Bracket.{Bracket}
use Rattle.exact.specs.Formula.{Formula, bracket_at}

-- A lies wholly below B: its upper end is less than the other's lower end
pub record WhollyBelow (A B : Bracket) : Type 0 where
  pub less : B.lo ⊑ A.hi → ⊥

-- for no M and N does the M-th bracket of x lie wholly below the N-th of y; "for no N" is the case of one place
pub record NeverBelow (x y : Formula) : Type 0 where
  pub never : (m n : ℕ) → 1 ≤ m → 1 ≤ n → (A B : Bracket) → bracket_at x m ≡ some A → bracket_at y n ≡ some B → WhollyBelow A B → ⊥

-- x is the smaller: at some N its bracket lies wholly below y's, and for no N wholly above it
pub record IsSmaller (x y : Formula) : Type 0 where
  pub place : ℕ
  pub from_one : 1 ≤ place
  pub bracket : Bracket
  pub other : Bracket
  pub is : bracket_at x place ≡ some bracket
  pub other_is : bracket_at y place ≡ some other
  pub below : WhollyBelow bracket other
  pub never_above : NeverBelow y x
