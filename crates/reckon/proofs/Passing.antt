-- What a turn hands on, and one turn of the loop that passes a part on. Assumes nothing.
use Prim.Native.Nat.{ℕ, ◌+◌, ◌-◌}
use mathlib.Core.List.{List}
use native.Mathlib.Omega.{arith}
use lib.ListN.{length, take, drop, length-drop}
use lib.Seq.{take-add}
use borrow.Rule.Slice.PartMut.{mid_of}
use Rattle.text.specs.declared.Stream.{Stream}
use Rattle.text.specs.laws.Reaching.{reached_none, reached_append}
use Rattle.text.specs.laws.Tails.{part_to_end}
use Rattle.reckon.specs.Passing.{Past}

-- no byte is used
pub past_none : (s : Stream) (bytes : List ℕ) → Past s bytes 0 s
past_none s bytes = record { within = omega arith; reached = reached_none s }

-- what a call uses of the rest of a part is used of the part
pub past_again
    : {s t u : Stream} {part : List ℕ} {used n : ℕ} →
    Past s part used t →
    Past t (mid_of used (length part - used) part) n u →
    Past s part (used + n) u
past_again {part = part} {used = used} {n = n} so_far past =
    let more : Past _ (drop used part) n _ = rw (part_to_end used part) at past in
    record {
      within = omega (arith, so_far.within, more.within, length-drop used part);
      reached = rw (take-add used n part) (reached_append (take used part) (take n (drop used part)) so_far.reached more.reached);
    }
