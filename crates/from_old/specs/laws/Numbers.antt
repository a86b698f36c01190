-- Which numbers the way in does not give. Assumes nothing.
use Rattle.std.specs.Prelude.{ℕ, ◌≡◌, refl, false, ◌∷◌, eqb}
use Rattle.std.proofs.lemmas.Bool.{eqb-false}
use Rattle.refusals.proofs.laws.Order.{neither}
use Rattle.refusals.proofs.laws.Numbers.{numbers, among}
use Rattle.writable.specs.laws.Numbers as writable
use Rattle.from_old.specs.declared.Refusal.{Refusal}
use Rattle.from_old.specs.declared.Refusal.TheVariants.{Unwritten, Tag, Double}
use Rattle.from_old.specs.Refusals.{number}

-- none but those of the faults, 8, 15 and 16
pub other_number : (n : ℕ) → among (15 ∷ 16 ∷ 8 ∷ numbers) n ≡ false → (r : Refusal) → number r ≡ n → ⊥
other_number n h r =
    let a = neither (eqb 15 n) (among (16 ∷ 8 ∷ numbers) n) h in
    let b = neither (eqb 16 n) (among (8 ∷ numbers) n) a.1 in
    go r a.0 b.0 b.1
  where
    go : (r : Refusal) → eqb 15 n ≡ false → eqb 16 n ≡ false → among (8 ∷ numbers) n ≡ false → number r ≡ n → ⊥
    go (Unwritten q) p s t = writable.other_number n t q
    go Tag p s t = eqb-false 15 n p
    go Double p s t = eqb-false 16 n s

-- so it is never 7
pub never_beyond : (r : Refusal) → number r ≡ 7 → ⊥
never_beyond = other_number 7 refl
