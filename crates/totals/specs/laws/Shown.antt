-- What the totals show: no end is above the greatest; there is no place just where there is no case; the case at the place has the greatest, and none
-- before it has. Assumes nothing.
use Rattle.std.specs.Prelude.{ℕ, zero, suc, ◌+◌, ◌≤◌, ◌<◌, ◌≡◌, refl, List, [], ◌∷◌, get_or, eqb, Option, None, Some}
use Rattle.std.proofs.lemmas.Option.{none-some, same_Some}
use Rattle.std.proofs.Common.{ap, ◌∙◌, arith, eqb-true}
use Rattle.std.proofs.lemmas.Bool.{eqb-false}
use Rattle.exact.proofs.laws.Tests.{settle}
use Rattle.places.specs.declared.Held.{Held}
use Rattle.places.specs.Holes.{at, Each}
use Rattle.places.specs.laws.Kept.{each_weaker}
use Rattle.totals.specs.Totals.{count, greatest, first_with, totals_of}
use Rattle.totals.specs.laws.Firsts.{first_nowhere, first_none}

pub none_above : (xs : List (Option Held)) → Each (λ (h : Held). h.upper ≤ greatest xs) xs
unfolding greatest Each
none_above [] = tt
none_above (None ∷ xs) = none_above xs
none_above (Some h ∷ xs) = (omega arith, each_weaker (λ g l. omega (arith, l)) xs (none_above xs))

pub no_place : (xs : List (Option Held)) → (totals_of xs).place ≡ 0 → count xs ≡ 0
unfolding totals_of
no_place xs e =
    settle (eqb (count xs) 0)
    (λ t. eqb-true (count xs) 0 t)
    (λ t. let some_left : count xs ≡ 0 → ⊥ = eqb-false (count xs) 0 t in absurd (first_nowhere (greatest xs) 0 xs e (omega (arith, some_left)) refl))

pub no_case : (xs : List (Option Held)) → count xs ≡ 0 → (totals_of xs).place ≡ 0
unfolding totals_of
no_case xs e = first_none (greatest xs) 0 xs e

-- a place that is found lies behind those ahead of the list
behind : (u k : ℕ) (xs : List (Option Held)) (j : ℕ) → first_with u k xs ≡ suc j → k ≤ j
unfolding first_with
behind u k [] j e = absurd (omega arith)
behind u k (None ∷ xs) j e = omega (arith, behind u (suc k) xs j e)
behind u k (Some h ∷ xs) j e =
    settle (eqb h.upper u)
    (λ t. let f : suc k ≡ suc j = rw t at e in omega arith)
    (λ t. omega (arith, behind u (suc k) xs j (rw t at e)))

first_at : (u k : ℕ) (xs : List (Option Held)) (i : ℕ) → first_with u k xs ≡ suc (k + i) → (h : Held) × (get_or xs i None ≡ Some h) × (h.upper ≡ u)
unfolding first_with
first_at u k [] i e = absurd (omega arith)
first_at u k (None ∷ xs) zero e = absurd (omega (arith, behind u (suc k) xs (k + 0) e))
first_at u k (None ∷ xs) (suc i) e = first_at u (suc k) xs i (e ∙ ap suc (omega arith))
first_at u k (Some h ∷ xs) zero e =
    settle (eqb h.upper u)
    (λ t. (h, refl, eqb-true h.upper u t))
    (λ t. absurd (omega (arith, behind u (suc k) xs (k + 0) (rw t at e))))
first_at u k (Some h ∷ xs) (suc i) e =
    settle (eqb h.upper u)
    (λ t. let f : suc k ≡ suc (k + suc i) = rw t at e in absurd (omega arith))
    (λ t. let f : first_with u (suc k) xs ≡ suc (k + suc i) = rw t at e in first_at u (suc k) xs i (f ∙ ap suc (omega arith)))

none_before : (u k : ℕ) (xs : List (Option Held)) (i : ℕ) → first_with u k xs ≡ suc (k + i) → (j : ℕ) → j < i → (h : Held) → get_or xs j None ≡ Some h
    → h.upper ≡ u
    → ⊥
unfolding first_with
none_before u k [] i e j l h g = absurd (none-some h g)
none_before u k (x ∷ xs) zero e j l h g = absurd (omega arith)
none_before u k (None ∷ xs) (suc i) e zero l h g = absurd (none-some h g)
none_before u k (None ∷ xs) (suc i) e (suc j) l h g = none_before u (suc k) xs i (e ∙ ap suc (omega arith)) j (omega arith) h g
none_before u k (Some b ∷ xs) (suc i) e j l h g =
    settle (eqb b.upper u)
    (λ t. let f : suc k ≡ suc (k + suc i) = rw t at e in absurd (omega arith))
    (λ t.
    let f : first_with u (suc k) xs ≡ suc (k + suc i) = rw t at e in
    later j l g (eqb-false b.upper u t) (none_before u (suc k) xs i (f ∙ ap suc (omega arith))))
  where
    later : (j : ℕ) → j < suc i → get_or (Some b ∷ xs) j None ≡ Some h → (b.upper ≡ u → ⊥) →
        ((j : ℕ) → j < i → (h : Held) → get_or xs j None ≡ Some h → h.upper ≡ u → ⊥) →
        h.upper ≡ u →
        ⊥
    later zero l g other more = λ e. other (ap (λ (d : Held). d.upper) (same_Some b h g) ∙ e)
    later (suc j) l g other more = more j (omega arith) h g

-- of the place that is shown
pub record ShownOf (xs : List (Option Held)) (k : ℕ) : Type 0 where
  pub held : Held
  pub there : at xs k ≡ Some held
  pub has : held.upper ≡ greatest xs
  pub first : (j : ℕ) → j < k → (h : Held) → at xs j ≡ Some h → h.upper ≡ greatest xs → ⊥

pub shown : (xs : List (Option Held)) (k : ℕ) → (totals_of xs).place ≡ suc k → ShownOf xs (suc k)
unfolding totals_of at
shown xs k e =
    let f : first_with (greatest xs) 0 xs ≡ suc (0 + k) = e ∙ ap suc (omega arith) in
    let there = first_at (greatest xs) 0 xs k f in
    record { held = there.0; there = there.1; has = there.2; first = earlier f }
  where
    earlier : first_with (greatest xs) 0 xs ≡ suc (0 + k) → (j : ℕ) → j < suc k → (h : Held) → at xs j ≡ Some h → h.upper ≡ greatest xs → ⊥
    earlier f zero l h g = absurd (none-some h g)
    earlier f (suc j) l h g = none_before (greatest xs) 0 xs k f j (omega arith) h g
