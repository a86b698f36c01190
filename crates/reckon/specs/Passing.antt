-- What feeding the bytes at hand asks and promises.
use Rattle.std.specs.Prelude.{ℕ, ◌≤◌, ◌<◌, List, length, take, Result, Ok, Err}
use Rattle.text.specs.declared.Stream.{Stream}
use Rattle.text.specs.Streams.{Reached}
use Rattle.text.specs.Records.{longest}
use Rattle.reckon.specs.Reading.{read_most}
use Rattle.reckon.specs.declared.WriteFailed.{WriteFailed}

-- t is s after the first `used` of these bytes
pub record Past (s : Stream) (bytes : List ℕ) (used : ℕ) (t : Stream) : Type 0 where
  pub within : used ≤ length bytes
  pub reached : Reached s (take used bytes) t

-- how many bytes a call has used, which it tells also where a write failed
abbrev pub used_of : Result ℕ WriteFailed → ℕ
used_of (Ok used) = used
used_of (Err failed) = failed.used

-- how many bytes of a part: all of them, or as many as a failed write tells
abbrev pub passed_of : (part : List ℕ) (r : Result (Unit {0}) WriteFailed) → ℕ
passed_of part (Ok done) = length part
passed_of part (Err failed) = failed.used

-- t is s after the bytes used
abbrev pub Turns : (s : Stream) (bytes : List ℕ) (r : Result ℕ WriteFailed) (t : Stream) → Type 0
Turns s bytes r t = Past s bytes (used_of r) t

-- of a part that has bytes some are used
pub record Relays (s : Stream) (part : List ℕ) (r : Result ℕ WriteFailed) (t : Stream) : Type 0 where
  pub turns : Turns s part r t
  pub goes : 0 < length part → 0 < used_of r

-- once all is written, the whole part is used
abbrev pub Passes : (s : Stream) (part : List ℕ) (r : Result (Unit {0}) WriteFailed) (t : Stream) → Type 0
Passes s part r t = Past s part (passed_of part r) t

-- reads of at most 64 KiB, and room for a record
pub record Buffers (input out : List ℕ) : Type 0 where
  pub most : length input ≤ read_most
  pub room : longest ≤ length out
