-- `hexadecimals::write` meets its contract: the digits of the first i bytes are written. Assumes nothing.
use Rattle.hexadecimals.specs.laws.Writing.{begin, turn}
use Rattle.hexadecimals.proofs.write.Goals as goal

pub loop-i-init : goal.loop-i-init
loop-i-init c =
    begin _ _ c.requires

pub loop-i-preserved : goal.loop-i-preserved
loop-i-preserved c =
    turn c.loop-i.invariant c.loop-i-test.true c.upper_of.ensures c.upper_of-in-loop-i.ensures
