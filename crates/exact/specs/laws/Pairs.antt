-- One bracket within another.
use Rattle.exact.specs.Fraction.{◌⊑◌}
use Rattle.exact.specs.Bracket.{Bracket}

infix 40 ◌⊆◌
pub record ◌⊆◌ (A B : Bracket) : Type 0 where
  pub above : B.lo ⊑ A.lo
  pub below : A.hi ⊑ B.hi
