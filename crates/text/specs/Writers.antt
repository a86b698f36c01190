-- What the routines that write to the start of an area promise.
use Rattle.std.specs.Prelude.{ℕ, ◌≤◌, ◌≡◌, List, ◌++◌, length, drop}
use Rattle.text.specs.Records.{Record, longest}

-- the text, then the area's other bytes as they were
abbrev pub over : (text area : List ℕ) → List ℕ
over text area = text ++ drop (length text) area

-- the text is written, in r bytes and no more than `most`
pub record Puts (text : List ℕ) (most : ℕ) (before after : List ℕ) (r : ℕ) : Type 0 where
  pub size : r ≡ length text
  pub short : r ≤ most
  pub bytes : after ≡ over text before

-- an answer frame, and room for A and its digits
pub record Space (answer out : List ℕ) : Type 0 where
  pub frame : length answer ≡ 77
  pub room : 155 ≤ length out

-- a record of line k is written
pub record Printed (k : ℕ) (line before after : List ℕ) (r : ℕ) : Type 0 where
  pub text : List ℕ
  pub correct : Record k line text
  pub puts : Puts text longest before after r
