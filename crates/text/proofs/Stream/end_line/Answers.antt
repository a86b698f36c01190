-- `text::Stream::end_line` meets its contract: a whole line is read where it lies, another where it is held. Assumes nothing.
use native.Mathlib.Omega.{arith}
use Rattle.text.proofs.Endings.{ends_direct, ends_later}
use Rattle.text.proofs.Stream.end_line.Goals as goal
use Rattle.text.proofs.Stream.end_line.Goals.{then-self-gt0, else-self-gt0}

pub returns-clause-printed : goal.returns-clause-printed
returns-clause-printed c =
    elim c.if-self-gt0.branch [
      | then-self-gt0 w ↦ rw (w.out-is, w.written-is) (ends_later w.hold.ensures w.put_held-written.ensures)
      | else-self-gt0 w ↦ rw (w.out-is, w.written-is) (ends_direct (omega (arith, w.if-self-gt0.false)) w.put_record-written.ensures)
    ]
