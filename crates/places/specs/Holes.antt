-- A plain list with holes: place k is its k-th element, counted from 1, and its last element is no hole (request 7).
use Rattle.std.specs.Prelude.{ℕ, zero, suc, ◌≤◌, ◌≡◌, Bool, true, false, List, [], ◌∷◌, ◌++◌, length, get_or, set, Option, None, Some}

abbrev pub vacant : {A : Type 0} → Option A → Bool
vacant None = true
vacant (Some a) = false

-- x ahead of a list, where a hole ahead of nothing is nothing
unfoldable pub ahead : {A : Type 0} → Option A → List (Option A) → List (Option A)
ahead None [] = []
ahead None (y ∷ ys) = None ∷ y ∷ ys
ahead (Some a) ys = Some a ∷ ys

-- a place past the last that holds a case is no gap: without the holes at the end
unfoldable pub trim : {A : Type 0} → List (Option A) → List (Option A)
trim [] = []
trim (x ∷ xs) = ahead x (trim xs)

-- what place k holds; no place 0 and none past the end
unfoldable pub at : {A : Type 0} → List (Option A) → (k : ℕ) → Option A
at xs zero = None
at xs (suc i) = get_or xs i None

-- a case right after the last place that holds one, at place 1 if none does
unfoldable pub added : {A : Type 0} → List (Option A) → A → List (Option A)
added xs a = xs ++ (Some a ∷ [])

-- a gap at place k, and nothing moved
unfoldable pub withdrawn : {A : Type 0} → List (Option A) → (k : ℕ) → List (Option A)
withdrawn xs zero = xs
withdrawn xs (suc i) = trim (set xs i None)

-- without the gaps, the others in order
unfoldable pub closed : {A : Type 0} → List (Option A) → List (Option A)
closed [] = []
closed (None ∷ xs) = closed xs
closed (Some a ∷ xs) = Some a ∷ closed xs

-- at most 64 places, of which the last holds a case
pub record Plain {A : Type 0} (xs : List (Option A)) : Type 0 where
  pub most : length xs ≤ 64
  pub trimmed : trim xs ≡ xs

-- of each case
unfoldable pub Each : {A : Type 0} → (A → Type 0) → List (Option A) → Type 0
Each P [] = Unit {0}
Each P (None ∷ xs) = Each P xs
Each P (Some a ∷ xs) = P a × Each P xs
