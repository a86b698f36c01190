-- One turn of the loop that reads: after so many reads at most so many lines have ended. Assumes nothing.
use Prim.Native.Nat.{ℕ, ◌+◌, ◌*◌, ◌≤◌, ◌<◌}
use mathlib.Core.Path.{◌≡◌}
use mathlib.Core.List.{List, [], ◌++◌}
use native.Mathlib.Nat.{pos_of_ne-zero}
use native.Mathlib.Numerals.{add-one}
use native.Mathlib.Omega.{arith}
use lib.ListN.{length, take}
use lib.Seq.{length-take-le}
use Rattle.text.specs.declared.Stream.{Stream}
use Rattle.text.specs.Records.{longest}
use Rattle.text.specs.Streams.{Stands}
use Rattle.text.specs.Promises.{Ready}
use Rattle.reckon.specs.Passing.{Past}
use Rattle.reckon.specs.Reading.{budget, read_most, After}
use Rattle.reckon.specs.Reading.After.{none, more}

after_lines : {reads : ℕ} {input : List ℕ} {s : Stream} → After reads input s → s.lines ≤ reads * read_most
after_lines (none st) = omega (arith, st.counted)
after_lines (more so_far some most reached) = omega (arith, after_lines so_far, reached.lines, most)

pub record Running (stream : Stream) (reads : ℕ) : Type 0 where
  pub bytes : List ℕ
  pub after : After reads bytes stream

pub run_first : {stream : Stream} → Stands stream 0 [] → Running stream 0
run_first st = record { bytes = []; after = none st }

pub run_ready : {stream : Stream} {reads : ℕ} {out : List ℕ} → Running stream reads → reads < budget → longest ≤ length out → Ready stream read_most out
run_ready so_far h room = record { numbers = omega (arith, after_lines so_far.after, h); room = room }

pub run_again
    : {stream next : Stream} {reads n : ℕ} {read : List ℕ} →
    Running stream reads →
    Past stream read n next →
    (n ≡ 0 → ⊥) →
    length read ≤ read_most →
    Running next (reads + 1)
run_again {reads = reads} {n = n} {read = read} so_far past some most =
    let size = length-take-le n read past.within in
    record {
      bytes = so_far.bytes ++ take n read;
      after =
          rw (add-one reads)
          (more
          {part = take n read}
          so_far.after
          (rw size (pos_of_ne-zero some))
          (omega (arith, size, past.within, most))
          past.reached);
    }
