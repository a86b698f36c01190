-- `vectors::judging::skip_values` meets its contract: what is left of the values is still to be passed. Assumes nothing.
use Rattle.std.proofs.Common.{arith}
use Rattle.vectors.proofs.Turns.{one_passed, all_passed}
use Rattle.vectors.proofs.judging.skip_values.Goals as goal

pub loop-i-preserved : goal.loop-i-preserved
loop-i-preserved c =
    let e = one_passed c.loop-i.words.rest.now c.loop-i.i (omega arith) in
    cc (e, c.loop-i.invariant)

pub returns : goal.returns
returns c =
    let e = all_passed c.loop-i.words.rest.now c.loop-i.i (omega arith) in
    cc (e, c.loop-i.invariant)
