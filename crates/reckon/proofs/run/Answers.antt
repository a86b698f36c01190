-- `reckon::run` meets its contract: each turn is one read more, and the stream is past what it brought. Assumes nothing.
use native.Mathlib.Omega.{arith}
use Rattle.reckon.proofs.Running.{run_first, run_ready, run_again}
use Rattle.reckon.proofs.run.Goals as goal

pub loop-reads-init : goal.loop-reads-init
loop-reads-init c =
    run_first c.new-stream.ensures

pub turn-requires-clause-ready : goal.turn-requires-clause-ready
turn-requires-clause-ready c =
    run_ready c.loop-reads.invariant (omega (arith, c.loop-reads-test.true)) (omega (arith, c.requires.room, c.loop-reads.auto.out))

pub loop-reads-preserved : goal.loop-reads-preserved
loop-reads-preserved c =
    run_again c.loop-reads.invariant c.in-Ok.ensures c.in-Ok.field-0-test.1
    (omega (arith, c.requires.most, c.turn.auto.input, c.loop-reads.auto.input))
