-- `hexadecimals::write` meets its contract: the digits of the first i bytes are written. Assumes nothing.
use Rattle.hexadecimals.specs.laws.Writing.{Writing}
use Rattle.hexadecimals.proofs.write.Given as goal

abbrev pub invariant-loop-i : goal.invariant-loop-i
invariant-loop-i l = Writing l.s l.initial.area l.area l.i
