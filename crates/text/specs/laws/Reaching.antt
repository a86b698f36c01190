-- A stream stands for something, and feeding two parts is feeding their concatenation. Assumes nothing.
use Rattle.std.specs.Prelude.{ℕ, ◌+◌, ◌≤◌, refl, List, [], ◌++◌, length, take}
use Rattle.std.proofs.Common.{sym, add-zero, add_assoc, arith, length-append, take_all, length-take-le}
use Rattle.text.specs.declared.Stream.{Stream}
use Rattle.text.specs.Lines.{ended, left}
use Rattle.text.specs.laws.Lines.{ended_append, left_append}
use Rattle.text.specs.Streams.{Stands, Reached}

-- a stream stands at least for what it holds, so that no promise about what it stands for is empty
pub stands_itself : (s : Stream) → Stands s s.lines (take s.held s.line)
stands_itself s =
    let few : length (take s.held s.line) ≤ 49
    = omega (arith, s.within, length-take-le s.held s.line (omega (arith, s.within, s.size))) in
    record { counted = refl; held = sym (take_all 49 (take s.held s.line) few) }

pub reached_none : (s : Stream) → Reached s [] s
unfolding ended left
reached_none s = record { lines = omega arith; stands = λ lines p st. rw (add-zero lines) st }

pub reached_append : {s t u : Stream} (a b : List ℕ) → Reached s a t → Reached t b u → Reached s (a ++ b) u
reached_append a b first then =
    record {
      lines = omega (arith, first.lines, then.lines, length-append a b);
      stands =
          λ lines p st.
          rw (
            ended_append p a b,
            left_append p a b,
            length-append (ended p a) (ended (left p a) b),
            ← add_assoc lines (length (ended p a)) (length (ended (left p a) b)),
          )
          (then.stands (lines + length (ended p a)) (left p a) (first.stands lines p st));
    }
