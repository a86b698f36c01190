-- Bounds of e^y by its sums, and of the ends of a bracket.
use Rattle.std.specs.Prelude.{ℕ, ◌≡◌}
use Rattle.std.proofs.Math.Option.{Option, some}
use Rattle.exact.specs.Fraction.{Ratio, ◌≼◌, Frac, ◌⊑◌, of_ratio}
use Rattle.exact.specs.Series.{exp_lower}

-- e^y is at most U: so is every sum
pub record Most (y U : Ratio) : Type 0 where
  pub all : (n : ℕ) → exp_lower y n ≼ U

-- e^y is at least L: so is the sum of t terms, and of more
pub record Least (t : ℕ) (y L : Ratio) : Type 0 where
  pub begin : L ≼ exp_lower y t

-- the ends of the N-th bracket at a signed fraction, with a bound

pub record LowerEnd (o : Option Frac) (L : Ratio) : Type 0 where
  pub end : Frac
  pub is : o ≡ some end
  pub bound : of_ratio L ⊑ end

pub record UpperEnd (o : Option Frac) (U : Ratio) : Type 0 where
  pub end : Frac
  pub is : o ≡ some end
  pub bound : end ⊑ of_ratio U
