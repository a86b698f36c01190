-- The frame that a line spells.
use Rattle.std.specs.Prelude.{ℕ, List, Option, Some, None, if◌then◌else◌, ◌==◌, ◌/◌, nat_le, length}
use Rattle.hexadecimals.specs.Digits.{bytes_of as Digits·bytes_of}
use Rattle.hexadecimals.specs.Spelling.{spells}

-- a frame has 24 bytes of a line of 48 characters, 22 of any other
abbrev pub frame_size : List ℕ → ℕ
frame_size line = if length line == 48 then 24 else 22

-- the n bytes that a text spells, if it spells as many
abbrev pub spelled_in : (n : ℕ) → List ℕ → Option (List ℕ)
spelled_in n text = if spells n text then Some (Digits·bytes_of text) else None

-- the frame, if the line spells one
abbrev pub frame_of : List ℕ → Option (List ℕ)
frame_of line = spelled_in (frame_size line) line

-- the bytes of a text of two digits each, at most 24
abbrev pub bytes_of : List ℕ → Option (List ℕ)
bytes_of text = if nat_le (length text / 2) 24 then spelled_in (length text / 2) text else None
