-- Which numbers these refusals have not. Assumes nothing.
use Rattle.std.specs.Prelude.{ℕ, ◌≡◌, refl, false, ◌∷◌, eqb}
use Rattle.refusals.proofs.laws.Order.{neither}
use Rattle.refusals.proofs.laws.Numbers.{numbers, among, no_fault}
use Rattle.std.proofs.lemmas.Bool.{eqb-false}
use Rattle.writable.specs.declared.Refusal.{Refusal}
use Rattle.writable.specs.declared.Refusal.TheVariants.{Faulty, Space}
use Rattle.writable.specs.Refusals.{number}

pub other_number : (n : ℕ) → among (8 ∷ numbers) n ≡ false → (r : Refusal) → number r ≡ n → ⊥
other_number n h (Faulty f) = no_fault n (neither (eqb 8 n) (among numbers n) h).1 f
other_number n h Space = eqb-false 8 n (neither (eqb 8 n) (among numbers n) h).0

-- so it is never 7: a case that is written may be beyond
pub never_beyond : (r : Refusal) → number r ≡ 7 → ⊥
never_beyond = other_number 7 refl
