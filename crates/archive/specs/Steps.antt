-- What the steps of gathering promise one another.
use Rattle.std.specs.Prelude.{ℕ, ◌+◌, ◌*◌, ◌≡◌, List, length, Option, None, Some}
use Rattle.byte_numbers.specs.Storing.{Stored}
use Rattle.places.specs.declared.Held.{Held}
use Rattle.places.specs.Holes.{closed}
use Rattle.archive.specs.Archived.{frame_at, frames_of}

-- how many cases a place holds
abbrev pub cases : Option Held → ℕ
cases None = 0
cases (Some h) = 1

-- behind n frames stands what a place adds, and there are r
pub record Put (x : Option Held) (n : ℕ) (before : List ℕ) (r : ℕ) (after : List ℕ) : Type 0 where
  pub count : r ≡ n + cases x
  pub frames : Stored before (24 * n) (frame_at x) after

-- n frames of a list stand in front
pub record Gathered (xs : List (Option Held)) (before : List ℕ) (n : ℕ) (after : List ℕ) : Type 0 where
  pub count : n ≡ length (closed xs)
  pub frames : Stored before 0 (frames_of xs) after
