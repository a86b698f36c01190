-- The cases of a study sheet stored by column (request 12).
use Rattle.std.specs.Prelude.{ℕ, List, [], ◌∷◌, ◌++◌, length, Option, None, Some}
use Rattle.fields.specs.Bytes.{long_frame}
use Rattle.places.specs.declared.Held.{Held}
use Rattle.places.specs.Holes.{closed}
use Rattle.columns.specs.Stored.{stored}

-- the frame of what a place holds, filled to 24 bytes; a gap has none
abbrev pub frame_at : Option Held → List ℕ
frame_at None = []
frame_at (Some h) = long_frame h.case

-- those of the cases in order, without the gaps
unfoldable pub frames_of : List (Option Held) → List ℕ
frames_of [] = []
frames_of (x ∷ xs) = frame_at x ++ frames_of xs

-- the number of cases, and their frames by column
unfoldable pub archived : List (Option Held) → List ℕ
archived xs = stored (length (closed xs)) (frames_of xs)
