-- `areas::written` meets its contract: what is left of an area without the marks that it ends in. Assumes nothing.
use Rattle.std.proofs.Common.{arith, ap, take, length, ◌≡◌, ℕ, ◌-◌, length-take-le}
use Rattle.areas.specs.Areas.{written_in}
use Rattle.areas.specs.laws.Areas.{written_marks}
use Rattle.areas.proofs.written.Goals as goal

pub returns-clause-part : goal.returns-clause-part
returns-clause-part c =
    let e = written_marks c.args.area.now in
    let n : length c.args.area.now - c.marks_of.result ≡ written_in c.args.area.now = omega arith in
    ap (λ (k : ℕ). take k c.args.area.now) n

pub returns-clause-size : goal.returns-clause-size
returns-clause-size c =
    let e = written_marks c.args.area.now in
    omega (arith, length-take-le (length c.args.area.now - c.marks_of.result) c.args.area.now (omega arith))
