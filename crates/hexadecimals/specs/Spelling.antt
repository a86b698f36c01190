-- What reading a line into bytes gives.
use Rattle.std.specs.Prelude.{ℕ, ◌*◌, ◌≡◌, Bool, ◌&&◌, cond, Option, Some, None, List, eqb, length}
use Rattle.hexadecimals.specs.Digits.{all_digits, bytes_of}

-- whether a line spells n bytes
unfoldable pub spells : (n : ℕ) → List ℕ → Bool
spells n line = eqb (length line) (2 * n) && all_digits line

-- the n bytes that a line spells, if it spells as many
unfoldable pub spelled : (n : ℕ) → List ℕ → Option (List ℕ)
spelled n line = cond (spells n line) (Some (bytes_of line)) None

-- whether the line spells as many bytes as there are, and every byte: those that it spells, or those that were there
pub record Spelled (line before after : List ℕ) (answer : Bool) : Type 0 where
  pub told : answer ≡ spells (length before) line
  pub bytes : after ≡ cond (spells (length before) line) (bytes_of line) before
