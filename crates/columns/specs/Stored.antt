-- Frames of 24 bytes stored by column, and turned back: the bytes, the tests in their order, and what is promised of an area (request 12).
use Rattle.std.specs.Prelude.{ℕ, ◌+◌, ◌*◌, ◌≤◌, ◌≡◌, Bool, true, not, cond, ◌||◌, List, [], ◌∷◌, length, eqb, ltb, Result, Ok, Err}
use Rattle.std.proofs.Math.Option.{Option, none, some}
use Rattle.std.proofs.lemmas.List.Edits.{sets}
use Rattle.refusals.specs.Order.{Test, ◌when◌, first_of}
use Rattle.columns.specs.declared.Refusal.{Refusal}
use Rattle.columns.specs.declared.Refusal.TheVariants.{Columns, Space}
use Rattle.columns.specs.declared.Shortage.{Shortage}
use Rattle.columns.specs.Transposed.{transposed}

-- n frames that follow one another, at most 64
pub record Frames (n : ℕ) (bytes : List ℕ) : Type 0 where
  pub most : n ≤ 64
  pub size : length bytes ≡ 24 * n

-- their number in one byte ahead, then their columns
unfoldable pub stored : (n : ℕ) (frames : List ℕ) → List ℕ
stored n frames = n ∷ transposed n 24 frames

-- turned back, the columns are 24 rows of as many bytes as there are frames
unfoldable pub restored : List ℕ → List ℕ
restored [] = []
restored (n ∷ columns) = transposed 24 n columns

-- the stored bytes are empty, the first byte is above 64, or the length is not 1 + 24 × that byte
unfoldable pub damaged : List ℕ → Bool
damaged [] = true
damaged (n ∷ columns) = ltb 64 n || not (eqb (length (n ∷ columns)) (1 + 24 * n))

-- the bytes are written at the start of the area; 8 if it is shorter than they are, and then it stays as it was
pub record Stores (bytes before : List ℕ) (v : Result ℕ Shortage) (after : List ℕ) : Type 0 where
  pub verdict : v ≡ cond (ltb (length before) (length bytes)) (Err (record {})) (Ok (length bytes))
  pub area : after ≡ cond (ltb (length before) (length bytes)) before (sets before 0 bytes)

-- turning back: 20, and last 8
unfoldable pub restore_tests : (bytes : List ℕ) (room : ℕ) → List (Test Refusal)
restore_tests bytes room = (Columns when damaged bytes) ∷ (Space when ltb room (length (restored bytes))) ∷ []

-- the first test that applies refuses the stored bytes
abbrev pub verdict_by : Option Refusal → (frames : List ℕ) → Result ℕ Refusal
verdict_by none frames = Ok (length frames)
verdict_by (some r) frames = Err r

-- at the start of the area; a refusal leaves the area as it was
abbrev pub with_bytes : {R : Type 0} → Option R → (bytes area : List ℕ) → List ℕ
with_bytes none bytes area = sets area 0 bytes
with_bytes (some r) bytes area = area

pub record Restores (bytes before : List ℕ) (v : Result ℕ Refusal) (after : List ℕ) : Type 0 where
  pub verdict : v ≡ verdict_by (first_of (restore_tests bytes (length before))) (restored bytes)
  pub area : after ≡ with_bytes (first_of (restore_tests bytes (length before))) (restored bytes) before
