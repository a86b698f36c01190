-- The reads of a run, and what stands at its end.
use Rattle.std.specs.Prelude.{ℕ, suc, ◌^◌, ◌≤◌, ◌<◌, ◌≡◌, List, [], ◌++◌, length}
use Rattle.text.specs.declared.Stream.{Stream}
use Rattle.text.specs.Streams.{Stands, Reached}
use Rattle.reckon.specs.declared.Ran.{Ran}
use Rattle.reckon.specs.declared.End.TheVariants.{Budget}

-- at a read each microsecond it lasts four years
abbrev pub budget : ℕ
budget = 2 ^ 47

-- the most bytes that a read brings
abbrev pub read_most : ℕ
read_most = 65536

-- so many reads have brought bytes, and the stream is past the bytes of all of them, in their order
pub data After : (reads : ℕ) (input : List ℕ) (s : Stream) → Type 0 where
  none : {s : Stream} → Stands s 0 [] → After 0 [] s
  more
      : {reads : ℕ} {input part : List ℕ} {s t : Stream} →
      After reads input s →
      0 < length part →
      length part ≤ read_most →
      Reached s part t →
      After (suc reads) (input ++ part) t

-- the stream is past all that the reads brought, and a run that its budget ended has made every one of them
pub record Runs (r : Ran) : Type 0 where
  pub input : List ℕ
  pub after : After r.reads input r.stream
  pub used_up : r.end ≡ Budget → r.reads ≡ budget
