-- Adding and withdrawing place by place: a case stands at the place that is told, a gap where one was withdrawn, and nothing else moves. Assumes nothing.
use Prim.Native.Nat.{ℕ, zero, suc, ◌+◌, ◌≤◌, ◌<◌}
use Rattle.std.specs.Prelude.{◌≡◌, false, length, get_or, set, Option, None, Some}
use Rattle.std.proofs.Math.Path.{refl}
use Rattle.std.proofs.Common.{ap, ◌∙◌, add-one, arith, length-set, get_or-set_same}
use mathlib.Core.List.{List, [], ◌∷◌, ◌++◌}
use Rattle.std.proofs.Math.Decide.{dec_le}
use Rattle.std.proofs.Math.ListN.{get_or-eq_default}
use Rattle.std.proofs.Math.Seq.{get_or-append_seam, get_or-set_other}
use Rattle.places.specs.Holes.{vacant, ahead, trim, at, added, withdrawn}
use Rattle.places.specs.laws.Trims.{get_d_trim}

module _ {A : Type 0} where
  others : (xs : List (Option A)) (a : A) (i : ℕ) → (i ≡ length xs → ⊥) → get_or (xs ++ (Some a ∷ [])) i None ≡ get_or xs i None
  others [] a zero h = absurd (h refl)
  others [] a (suc i) h = refl
  others (x ∷ xs) a zero h = refl
  others (x ∷ xs) a (suc i) h = others xs a i (λ e. h (ap suc e))

  -- the case stands right after the last, and every other place holds what it held
  pub added_there : (xs : List (Option A)) (a : A) → at (added xs a) (length xs + 1) ≡ Some a
  unfolding at added
  added_there xs a = rw (add-one (length xs)) (get_or-append_seam xs (Some a) [] None)

  pub added_others : (xs : List (Option A)) (a : A) (k : ℕ) → (k ≡ length xs + 1 → ⊥) → at (added xs a) k ≡ at xs k
  unfolding at added
  added_others xs a zero h = refl
  added_others xs a (suc i) h = others xs a i (λ e. h (omega arith))

  hole_there : (xs : List (Option A)) (i : ℕ) → get_or (set xs i None) i None ≡ None
  hole_there xs i = go (dec_le (suc i) (length xs))
    where
      go : Dec (suc i ≤ length xs) → get_or (set xs i None) i None ≡ None
      go (yes h) = get_or-set_same xs i None None h
      go (no h) = get_or-eq_default (set xs i None) None (omega (arith, length-set xs i None))

  -- the place holds nothing, and every other place holds what it held
  pub withdrawn_there : (xs : List (Option A)) (k : ℕ) → at (withdrawn xs k) k ≡ None
  unfolding at withdrawn
  withdrawn_there xs zero = refl
  withdrawn_there xs (suc i) = get_d_trim (set xs i None) i ∙ hole_there xs i

  pub withdrawn_others : (xs : List (Option A)) (k j : ℕ) → (j ≡ k → ⊥) → at (withdrawn xs k) j ≡ at xs j
  unfolding at withdrawn
  withdrawn_others xs zero j h = refl
  withdrawn_others xs (suc i) zero h = refl
  withdrawn_others xs (suc i) (suc j) h = get_d_trim (set xs i None) j ∙ get_or-set_other xs i j None None (λ e. h (ap suc e))

  end_ahead : (x : Option A) (t : List (Option A)) → 0 < length (ahead x t) → (0 < length t → vacant (at t (length t)) ≡ false)
      → vacant (at (ahead x t) (length (ahead x t))) ≡ false
  unfolding ahead at
  end_ahead None [] l h = absurd (omega arith)
  end_ahead None (y ∷ ys) l h = h (omega arith)
  end_ahead (Some a) [] l h = refl
  end_ahead (Some a) (y ∷ ys) l h = h (omega arith)

  -- a list without holes at its end is empty, or its last place holds a case
  pub last_taken : (xs : List (Option A)) → 0 < length (trim xs) → vacant (at (trim xs) (length (trim xs))) ≡ false
  unfolding trim
  last_taken [] l = absurd (omega arith)
  last_taken (x ∷ xs) l = end_ahead x (trim xs) l (last_taken xs)
