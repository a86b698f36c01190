-- `enclosure::exponential::point` meets its contract: from 0 up its size is the number itself. Assumes nothing.
use Rattle.std.proofs.Common.{◌≡◌, ap, ◌∙◌, ◌*◌, ◌^◌, ◌<◌, pos, unsigned_abs, arith}
use Rattle.signed.specs.Reading.{Read}
use Rattle.signed.proofs.Reading.{as_pos}
use Rattle.enclosure.proofs.ExpSigns.{at_positive}
use Rattle.enclosure.proofs.exponential.point.Goals as goal

pub returns-then-y-ge0 : goal.returns-then-y-ge0
returns-then-y-ge0 c =
    let x : Read pos c.args.y = as_pos _ c.ranges.y.sfits c.if-y-ge0.true in
    let p = rw x.same at c.requires in
    let small : x.a < 512 * 2 ^ 30 = p.0 in
    let size : c.unsigned_abs-size.result ≡ x.a = c.unsigned_abs-size.ensures.value ∙ ap unsigned_abs x.read in
    let q = rw size at c.positive.ensures in
    rw x.same (at_positive x.a 0 x.a (omega arith) small q)
