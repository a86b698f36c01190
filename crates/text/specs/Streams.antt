-- What a stream stands for, and the text that is due after it.
use Rattle.std.specs.Prelude.{ℕ, suc, ◌+◌, ◌≤◌, ◌≡◌, List, length, take}
use Rattle.text.specs.declared.Stream.{Stream}
use Rattle.text.specs.Lines.{ended, left, last_line}
use Rattle.text.specs.Records.{Text}

-- so many lines have ended, and since then came the characters p
pub record Stands (s : Stream) (lines : ℕ) (p : List ℕ) : Type 0 where
  pub counted : s.lines ≡ lines
  pub held : take s.held s.line ≡ take 49 p

-- t is s after these bytes of the input
pub record Reached (s : Stream) (bytes : List ℕ) (t : Stream) : Type 0 where
  pub lines : t.lines ≤ s.lines + length bytes
  pub stands
      : (lines : ℕ) (p : List ℕ) → Stands s lines p → Stands t (lines + length (ended p bytes)) (left p bytes)

-- the text is that of the lines that end in these bytes after s
abbrev pub Tells : (s : Stream) (bytes text : List ℕ) → Type 0
Tells s bytes text = (lines : ℕ) (p : List ℕ) → Stands s lines p → Text (suc lines) (ended p bytes) text

-- the text is that of the last line, which no LF ends
abbrev pub TellsLast : (s : Stream) (text : List ℕ) → Type 0
TellsLast s text = (lines : ℕ) (p : List ℕ) → Stands s lines p → Text (suc lines) (last_line p) text
