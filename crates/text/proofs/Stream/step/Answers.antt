-- `text::Stream::step` meets its contract. Assumes nothing.
use native.Mathlib.Omega.{arith}
use Rattle.text.proofs.LineEnds.{end_found, end_missed}
use Rattle.text.proofs.LineTaken.{taken_rest, taken_line}
use Rattle.text.proofs.Stream.step.Goals as goal

pub returns-in-Some : goal.returns-in-Some
returns-in-Some c =
    let found = end_found c.args.part.now c.in-Some.ensures in
    let put = c.end_line-written in
    record {
      taken = taken_line found.0 found.1 c.requires.room put.auto.out put.ensures.printed put.ensures.counted put.ensures.none_held;
      goes = λ h. omega arith;
    }

pub returns-in-None : goal.returns-in-None
returns-in-None c =
    let missed = end_missed c.args.part.now c.in-None.ensures in
    record { taken = taken_rest c.args.out.now missed c.hold.ensures; goes = λ h. h }
