-- `scan::Lines::next` gives the first of the lines that are left, and leaves the others. Assumes nothing.
use Rattle.std.proofs.Common.{sym, ◌∙◌, ap, length, arith, ◌<◌}
use Rattle.scan.specs.Words.{lines_of}
use Rattle.scan.proofs.Reading.{lines_none, lines_first, finds_twice}
use Rattle.scan.proofs.LinesIterator.next.Goals as goal

pub returns-then-is_empty-clause-steps : goal.returns-then-is_empty-clause-steps
returns-then-is_empty-clause-steps c =
    let none = lines_none c.args.self.now.rest.now (sym c.is_empty.ensures ∙ c.if-is_empty.true) in
    (none, none)

pub returns-clause-steps : goal.returns-clause-steps
returns-clause-steps c =
    let first = lines_first _ finds_twice c.args.self.now.rest.now (sym c.is_empty.ensures ∙ c.if-is_empty.false) in
    cc (first, c.cut.ensures.before, c.cut.ensures.after)

pub returns-clause-goes : goal.returns-clause-goes
returns-clause-goes c =
    let fewer : length (lines_of c.cut.result.1.now) < length (lines_of c.args.self.now.rest.now) = omega (arith, ap length (returns-clause-steps c)) in
    record { on = λ _. (tt, tt, fewer); keeps = tt; rests = λ _. tt }
