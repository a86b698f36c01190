-- What the writers promise each other: bytes stored from a place on, and nothing else changed.
use Rattle.std.specs.Prelude.{◌≡◌, List, ℕ}
use Rattle.std.proofs.lemmas.List.Edits.{sets}

-- L is l with the bytes bs stored from a on
pub record Stored (l : List ℕ) (a : ℕ) (bs L : List ℕ) : Type 0 where
  pub all : L ≡ sets l a bs
