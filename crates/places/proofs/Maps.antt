-- A list and the list of its elements' images. Assumes nothing.
use Rattle.std.specs.Prelude.{ℕ, zero, suc, ◌≡◌, refl, List, [], ◌∷◌, map, length, set}
use Rattle.std.proofs.Common.{sym, ap, ◌∙◌}
use Rattle.std.proofs.lemmas.List.{length-map}

-- as many as their images
pub unmapped : {X Y : Type 0} (f : X → Y) (xs : List X) (n : ℕ) → length (map f xs) ≡ n → length xs ≡ n
unmapped f xs n e = sym (length-map xs f) ∙ e

-- a store, seen through a function
pub map-set : {A B : Type 0} (f : A → B) (xs : List A) (i : ℕ) (y : A) → map f (set xs i y) ≡ set (map f xs) i (f y)
map-set f [] i y = refl
map-set f (x ∷ xs) zero y = refl
map-set {B = B} f (x ∷ xs) (suc i) y = ap (λ (t : List B). f x ∷ t) (map-set f xs i y)
