-- Tests in the order of their numbers, for every type of refusals (document 01, "Refused cases").
use Rattle.std.specs.Prelude.{Bool, cond, List, [], ◌∷◌}
use Rattle.std.proofs.Math.Option.{Option, none, some}

-- a refusal, and whether its test applies
infixl 60 ◌when◌
pub data Test (R : Type 0) : Type 0 where
  ◌when◌ : R → Bool → Test R

-- the first test that applies, if one does
unfoldable pub first_of : {R : Type 0} → List (Test R) → Option R
first_of [] = none
first_of ((refusal when applies) ∷ later) = cond applies (some refusal) (first_of later)

-- the same tests, their refusals held by another type
unfoldable pub held : {R S : Type 0} → (R → S) → List (Test R) → List (Test S)
held by [] = []
held by ((refusal when applies) ∷ later) = (by refusal when applies) ∷ held by later
