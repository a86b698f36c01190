-- Which numbers the faults have, and so which they have not. Assumes nothing.
use Rattle.std.specs.Prelude.{ℕ, ◌≡◌, refl, Bool, true, false, ◌||◌, List, [], ◌∷◌, eqb}
use Rattle.std.proofs.Common.{ap, sym, ◌∙◌, true≢false}
use Rattle.refusals.specs.declared.Fault.{Fault}
use Rattle.refusals.specs.declared.Fault.TheVariants.{Length, Digit, Substance, State, Placement, Surroundings, Quantity, Heat}
use Rattle.refusals.specs.Faults.{number}

-- in the order of the tests
abbrev pub numbers : List ℕ
numbers = 1 ∷ 2 ∷ 3 ∷ 12 ∷ 13 ∷ 14 ∷ 5 ∷ 6 ∷ []

abbrev pub among : List ℕ → ℕ → Bool
among [] n = false
among (k ∷ later) n = eqb k n || among later n

fault_among : (f : Fault) → among numbers (number f) ≡ true
fault_among Length = refl
fault_among Digit = refl
fault_among Substance = refl
fault_among State = refl
fault_among Placement = refl
fault_among Surroundings = refl
fault_among Quantity = refl
fault_among Heat = refl

pub no_fault : (n : ℕ) → among numbers n ≡ false → (f : Fault) → number f ≡ n → ⊥
no_fault n h f e = true≢false (sym (fault_among f) ∙ ap (among numbers) e ∙ h)
