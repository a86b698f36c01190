-- What feeding a stream asks and promises.
use Rattle.std.specs.Prelude.{ℕ, ◌+◌, ◌*◌, ◌^◌, ◌≤◌, ◌<◌, ◌≡◌, List, length, take, drop}
use Rattle.text.specs.declared.Stream.{Stream}
use Rattle.text.specs.declared.Fed.{Fed}
use Rattle.text.specs.Records.{longest}
use Rattle.text.specs.Streams.{Reached, Tells, TellsLast}

-- the numbers of n more lines fit, and there is room for a record
pub record Ready (s : Stream) (n : ℕ) (out : List ℕ) : Type 0 where
  pub numbers : s.lines + n < 2 ^ 64
  pub room : longest ≤ length out

-- used bytes of a part have been taken, the text of the lines that end there stands in the area, whose other bytes are as they were
pub record Taken (s : Stream) (part before : List ℕ) (t : Stream) (r : Fed) (after : List ℕ) : Type 0 where
  pub used : r.used ≤ length part
  pub written : r.written ≤ length before
  pub same : length after ≡ length before
  pub text : Tells s (take r.used part) (take r.written after)
  pub others : drop r.written after ≡ drop r.written before
  pub reached : Reached s (take r.used part) t
  pub begun : r.written ≤ longest * r.used

-- besides, the part is used up, or the area has no room for another record
pub record Feeds (s : Stream) (part before : List ℕ) (t : Stream) (r : Fed) (after : List ℕ) : Type 0 where
  pub taken : Taken s part before t r after
  pub full : r.used < length part → length before < r.written + longest

-- the text of a last line that no LF ends stands in the area, whose other bytes are as they were
pub record Finishes (s : Stream) (before : List ℕ) (r : ℕ) (after : List ℕ) : Type 0 where
  pub written : r ≤ length before
  pub same : length after ≡ length before
  pub text : TellsLast s (take r after)
  pub others : drop r after ≡ drop r before
