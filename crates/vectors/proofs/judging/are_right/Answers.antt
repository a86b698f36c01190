-- `vectors::judging::are_right` meets its contract: the figures passed are right. Assumes nothing.
use Rattle.std.proofs.Common.{arith}
use Rattle.vectors.proofs.Turns.{this_right, this_wrong, all_right}
use Rattle.vectors.proofs.judging.are_right.Goals as goal

pub returns-then-not-is_right : goal.returns-then-not-is_right
returns-then-not-is_right c =
    let w = c.next_word-w.ensures in
    let e = this_wrong _ _ _ _ c.loop-i-test.true w.lead w.value c.is_right.ensures c.if-not-is_right.true in
    cc (e, c.loop-i.invariant)

pub loop-i-preserved : goal.loop-i-preserved
loop-i-preserved c =
    let w = c.next_word-w.ensures in
    let e = this_right _ _ _ _ c.loop-i-test.true w.lead w.value c.is_right.ensures c.if-not-is_right.false in
    cc (e, c.loop-i.invariant, w.rest)

pub returns : goal.returns
returns c =
    let e = all_right c.loop-i.words.rest.now c.args.area.now c.args.table.now c.loop-i.i (omega arith) in
    cc (e, c.loop-i.invariant)
