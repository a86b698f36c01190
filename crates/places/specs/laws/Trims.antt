-- Laws of a list without the holes at its end. Assumes nothing.
use Prim.Native.Nat.{ℕ, zero, suc, ◌+◌, ◌≤◌, ◌<◌}
use Rattle.std.proofs.Math.Path.{◌≡◌, refl, sym, ap}
use Rattle.std.proofs.Common.{◌∙◌, not-suc-le-zero}
use Rattle.std.proofs.lemmas.Bool.{false≢true}
use mathlib.Core.List.{List, [], ◌∷◌, ◌++◌}
use native.Mathlib.Omega.{arith}
use Rattle.std.proofs.Math.ListN.{length, length-append, get_or}
use Rattle.std.specs.Prelude.{set, take, true, Option, None, Some, is_some, MatchOption}
use Rattle.places.specs.Holes.{ahead, trim}

-- what does not tell a hole at the end from no place at all
pub ahead_same
    : {A B : Type 0} (f : List (Option A) → B) →
    f [] ≡ f (None ∷ []) →
    (x : Option A) (t : List (Option A)) →
    f (ahead x t) ≡ f (x ∷ t)
unfolding ahead
ahead_same f e None [] = e
ahead_same f e None (y ∷ ys) = refl
ahead_same f e (Some a) t = refl

module _ {A : Type 0} where
  trim_ahead : (x : Option A) (t : List (Option A)) → trim (ahead x t) ≡ ahead x (trim t)
  unfolding ahead trim
  trim_ahead = ahead_same trim refl

  pub trim_trim : (xs : List (Option A)) → trim (trim xs) ≡ trim xs
  unfolding trim
  trim_trim [] = refl
  trim_trim (x ∷ xs) = trim_ahead x (trim xs) ∙ ap (ahead x) (trim_trim xs)

  -- the holes at the end hold nothing
  pub get_d_trim : (xs : List (Option A)) (i : ℕ) → get_or (trim xs) i None ≡ get_or xs i None
  unfolding trim
  get_d_trim [] i = refl
  get_d_trim (x ∷ xs) zero = ahead_same (λ (t : List (Option A)). get_or t 0 None) refl x (trim xs)
  get_d_trim (x ∷ xs) (suc i) = ahead_same (λ (t : List (Option A)). get_or t (suc i) None) refl x (trim xs) ∙ get_d_trim xs i

  -- a hole is made before or after those at the end are left out
  pub trim_set_hole : (xs : List (Option A)) (i : ℕ) → trim (set xs i None) ≡ trim (set (trim xs) i None)
  unfolding ahead trim
  trim_set_hole [] i = refl
  trim_set_hole (x ∷ xs) zero =
      ap (ahead None) (sym (trim_trim xs)) ∙ sym (ahead_same (λ (t : List (Option A)). trim (set t 0 None)) refl x (trim xs))
  trim_set_hole (x ∷ xs) (suc i) =
      ap (ahead x) (trim_set_hole xs i) ∙ sym (ahead_same (λ (t : List (Option A)). trim (set t (suc i) None)) refl x (trim xs))

  set_next_ahead
      : (x : Option A) (xs t : List (Option A)) (a : A) →
      trim xs ≡ t →
      (length t < length xs → trim (set xs (length t) (Some a)) ≡ t ++ (Some a ∷ [])) →
      length (ahead x t) < suc (length xs) →
      trim (set (x ∷ xs) (length (ahead x t)) (Some a)) ≡ ahead x t ++ (Some a ∷ [])
  unfolding ahead trim
  set_next_ahead None xs [] a e next l = ap (λ (t : List (Option A)). Some a ∷ t) e
  set_next_ahead None xs (y ∷ ys) a e next l = ap (ahead None) (next (omega arith))
  set_next_ahead (Some b) xs t a e next l = ap (λ (t : List (Option A)). Some b ∷ t) (next (omega arith))

  -- a case right after the last one
  pub trim_set_next
      : (xs : List (Option A)) (a : A) →
      length (trim xs) < length xs →
      trim (set xs (length (trim xs)) (Some a)) ≡ trim xs ++ (Some a ∷ [])
  unfolding trim
  trim_set_next [] a l = absurd (not-suc-le-zero l)
  trim_set_next (x ∷ xs) a l = set_next_ahead x xs (trim xs) a refl (trim_set_next xs a) l

  -- a hole at the end is left out
  pub trim_take_hole
      : (xs : List (Option A)) (n : ℕ) → get_or xs n None ≡ None → trim (take (suc n) xs) ≡ trim (take n xs)
  unfolding trim ahead
  trim_take_hole [] zero e = refl
  trim_take_hole [] (suc n) e = refl
  trim_take_hole (x ∷ xs) zero e = rw e
  trim_take_hole (x ∷ xs) (suc n) e = ap (ahead x) (trim_take_hole xs n e)

  ahead_more : (x : Option A) (xs : List (Option A)) → 0 < length xs → ahead x xs ≡ x ∷ xs
  unfolding ahead
  ahead_more None [] l = absurd (not-suc-le-zero l)
  ahead_more None (y ∷ ys) l = refl
  ahead_more (Some a) xs l = refl

  -- a list that ends with a case
  pub trim_append_case : (xs : List (Option A)) (a : A) → trim (xs ++ (Some a ∷ [])) ≡ xs ++ (Some a ∷ [])
  unfolding trim ahead
  trim_append_case [] a = refl
  trim_append_case (x ∷ xs) a =
      rw (trim_append_case xs a) (ahead_more x (xs ++ (Some a ∷ [])) (omega (arith, length-append xs (Some a ∷ []))))

  pub length_trim : (xs : List (Option A)) → length (trim xs) ≤ length xs
  unfolding trim ahead
  length_trim [] = omega arith
  length_trim (x ∷ xs) = shorter x (trim xs) (length_trim xs)
    where
      shorter : (y : Option A) (t : List (Option A)) → length t ≤ length xs → length (ahead y t) ≤ suc (length xs)
      shorter None [] l = omega arith
      shorter None (z ∷ zs) l = omega arith
      shorter (Some a) t l = omega arith

  -- a case at the end keeps all
  pub trim_take_case
      : (xs : List (Option A)) (n : ℕ) (a : A) → get_or xs n None ≡ Some a → length (trim (take (suc n) xs)) ≡ suc n
  unfolding trim ahead
  trim_take_case [] n a e = let z : ◌≡◌ {A = ℕ} 0 1 = cc in omega arith
  trim_take_case (x ∷ xs) zero a e = rw e
  trim_take_case (x ∷ xs) (suc n) a e =
      let more : length (trim (take (suc n) xs)) ≡ suc n = trim_take_case xs n a e in
      rw (ahead_more x (trim (take (suc n) xs)) (omega arith)) (ap suc more)

  -- a list of holes
  trim_holes : (xs : List (Option A)) → ((k : ℕ) → k < length xs → get_or xs k None ≡ None) → trim xs ≡ []
  unfolding trim ahead
  trim_holes [] h = refl
  trim_holes (x ∷ xs) h = rw (h 0 (omega arith), trim_holes xs (λ k l. h (suc k) (omega arith))) refl

  -- the last place that holds a case, by what stands at each
  trim_last
      : (xs : List (Option A)) (i : ℕ) →
      i < length xs →
      is_some (get_or xs i None) ≡ true →
      ((k : ℕ) → i < k → k < length xs → get_or xs k None ≡ None) →
      length (trim xs) ≡ i + 1
  unfolding trim ahead
  trim_last [] i l e h = absurd (not-suc-le-zero l)
  trim_last (None ∷ xs) zero l e h = absurd (false≢true e)
  trim_last (Some a ∷ xs) zero l e h = rw (trim_holes xs (λ k l. h (suc k) (omega arith) (omega arith))) refl
  trim_last (x ∷ xs) (suc i) l e h =
      let more : length (trim xs) ≡ i + 1 = trim_last xs i (omega arith) e (λ k a b. h (suc k) (omega arith) (omega arith)) in
      rw (ahead_more x (trim xs) (omega arith)) (omega arith)

  pub last_found
      : (xs : List (Option A)) (found : Option ℕ) (n : ℕ) →
      MatchOption found ((k : ℕ) → k < length xs → get_or xs k None ≡ None)
      (λ i. (i < length xs) × (is_some (get_or xs i None) ≡ true) × ((k : ℕ) → i < k → k < length xs → get_or xs k None ≡ None)) →
      MatchOption found (n ≡ 0) (λ i. n ≡ i + 1) →
      n ≡ length (trim xs)
  last_found xs None n holes e = e ∙ sym (ap length (trim_holes xs holes))
  last_found xs (Some i) n there e = e ∙ sym (trim_last xs i there.0 there.1 there.2)
