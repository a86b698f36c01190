-- `reckon::pass` meets its contract: each turn uses more of the part. Assumes nothing.
use Rattle.reckon.proofs.Passing.{past_none, past_again}
use Rattle.reckon.proofs.pass.Goals as goal

pub loop-used-init : goal.loop-used-init
loop-used-init c =
    past_none c.args.stream.now c.args.part.now

pub loop-used-preserved : goal.loop-used-preserved
loop-used-preserved c =
    past_again c.loop-used.invariant c.in-Ok.ensures.turns

pub returns-in-Err : goal.returns-in-Err
returns-in-Err c =
    past_again c.loop-used.invariant c.in-Err.ensures.turns
