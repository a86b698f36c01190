-- What the routines that take a part of the input promise.
use Rattle.std.specs.Prelude.{ℕ, suc, ◌+◌, ◌<◌, ◌≡◌, List, ◌++◌, [], ◌∷◌, length, take, cond, eqb}
use Rattle.text.specs.declared.Stream.{Stream}
use Rattle.text.specs.declared.Fed.{Fed}
use Rattle.text.specs.Lines.{lf}
use Rattle.text.specs.Writers.{Printed}
use Rattle.text.specs.Promises.{Taken}

-- how many characters stand before the first LF
unfoldable pub end_of : List ℕ → ℕ
end_of [] = 0
end_of (b ∷ s) = cond (eqb b lf) 0 (suc (end_of s))

-- r is s after more characters of its line
pub record Held (s : Stream) (chars : List ℕ) (r : Stream) : Type 0 where
  pub lines : r.lines ≡ s.lines
  pub line : take r.held r.line ≡ take 49 (take s.held s.line ++ chars)

-- the record of the line that chars end is written
pub record Ends (s : Stream) (chars before after : List ℕ) (r : ℕ) : Type 0 where
  pub printed : (p : List ℕ) → take s.held s.line ≡ take 49 p → Printed (s.lines + 1) (p ++ chars) before after r

-- bytes are taken, of a part that has any at least one
pub record Steps (s : Stream) (part before : List ℕ) (t : Stream) (r : Fed) (after : List ℕ) : Type 0 where
  pub taken : Taken s part before t r after
  pub goes : 0 < length part → 0 < r.used
