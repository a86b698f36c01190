-- What the operations keep: a plain list stays one, and what holds of each case. Assumes nothing.
use Prim.Native.Nat.{ℕ, zero, suc}
use Rattle.std.specs.Prelude.{◌≡◌, length, get_or, set, Option, None, Some}
use Rattle.std.proofs.lemmas.Option.{none-some, same_Some}
use Rattle.std.proofs.Math.Path.{subst}
use mathlib.Core.List.{List, [], ◌∷◌}
use Rattle.std.proofs.Common.{arith}
use Rattle.std.proofs.Math.ListN.{length-append, length-set}
use Rattle.places.specs.Holes.{ahead, trim, added, withdrawn, closed, Plain, Each}
use Rattle.places.specs.laws.Trims.{trim_trim, trim_append_case, length_trim}
use Rattle.places.specs.laws.Closings.{closed_length, trim_closed}

module _ {A : Type 0} where
  pub plain_added : (xs : List (Option A)) (a : A) → (length xs ≡ 64 → ⊥) → Plain xs → Plain (added xs a)
  unfolding added
  plain_added xs a h p = record { most = omega (arith, p.most, h, length-append xs (Some a ∷ [])); trimmed = trim_append_case xs a }

  pub plain_withdrawn : (xs : List (Option A)) (k : ℕ) → Plain xs → Plain (withdrawn xs k)
  unfolding withdrawn
  plain_withdrawn xs zero p = p
  plain_withdrawn xs (suc i) p =
      record { most = omega (arith, length_trim (set xs i None), length-set xs i None, p.most); trimmed = trim_trim (set xs i None) }

  pub plain_closed : (xs : List (Option A)) → Plain xs → Plain (closed xs)
  plain_closed xs p = record { most = omega (arith, closed_length xs, p.most); trimmed = trim_closed xs }

module _ {A : Type 0} (P : A → Type 0) where
  each_ahead : (x : Option A) (xs : List (Option A)) → Each P (x ∷ xs) → Each P (ahead x xs)
  unfolding ahead Each
  each_ahead None [] h = tt
  each_ahead None (y ∷ ys) h = h
  each_ahead (Some a) xs h = h

  each-cons : (x : Option A) (xs ys : List (Option A)) → (Each P xs → Each P ys) → Each P (x ∷ xs) → Each P (x ∷ ys)
  unfolding Each
  each-cons None xs ys f h = f h
  each-cons (Some a) xs ys f h = (h.0, f h.1)

  each_trim : (xs : List (Option A)) → Each P xs → Each P (trim xs)
  unfolding trim
  each_trim [] h = h
  each_trim (x ∷ xs) h = each_ahead x (trim xs) (each-cons x xs (trim xs) (each_trim xs) h)

  each_hole : (xs : List (Option A)) (i : ℕ) → Each P xs → Each P (set xs i None)
  unfolding Each
  each_hole [] i h = h
  each_hole (None ∷ xs) zero h = h
  each_hole (Some a ∷ xs) zero h = h.1
  each_hole (None ∷ xs) (suc i) h = each_hole xs i h
  each_hole (Some a ∷ xs) (suc i) h = (h.0, each_hole xs i h.1)

  pub each_added : (xs : List (Option A)) (a : A) → P a → Each P xs → Each P (added xs a)
  unfolding added Each
  each_added [] a p h = (p, tt)
  each_added (None ∷ xs) a p h = each_added xs a p h
  each_added (Some b ∷ xs) a p h = (h.0, each_added xs a p h.1)

  pub each_withdrawn : (xs : List (Option A)) (k : ℕ) → Each P xs → Each P (withdrawn xs k)
  unfolding withdrawn
  each_withdrawn xs zero h = h
  each_withdrawn xs (suc i) h = each_trim (set xs i None) (each_hole xs i h)

  pub each_closed : (xs : List (Option A)) → Each P xs → Each P (closed xs)
  unfolding Each closed
  each_closed [] h = h
  each_closed (None ∷ xs) h = each_closed xs h
  each_closed (Some a ∷ xs) h = (h.0, each_closed xs h.1)

  -- at a place that holds one
  pub each_at : (xs : List (Option A)) (i : ℕ) (a : A) → Each P xs → get_or xs i None ≡ Some a → P a
  unfolding Each
  each_at [] i a h e = absurd (none-some a e)
  each_at (None ∷ xs) zero a h e = absurd (none-some a e)
  each_at (Some b ∷ xs) zero a h e = subst P (same_Some b a e) h.0
  each_at (None ∷ xs) (suc i) a h e = each_at xs i a h e
  each_at (Some b ∷ xs) (suc i) a h e = each_at xs i a h.1 e

pub each_weaker : {A : Type 0} {P Q : A → Type 0} → ((a : A) → P a → Q a) → (xs : List (Option A)) → Each P xs → Each Q xs
unfolding Each
each_weaker f [] h = h
each_weaker f (None ∷ xs) h = each_weaker f xs h
each_weaker f (Some a ∷ xs) h = (f a h.0, each_weaker f xs h.1)
