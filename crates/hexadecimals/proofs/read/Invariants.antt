-- `hexadecimals::read` meets its contract: each turn works two characters. Assumes nothing.
use Rattle.hexadecimals.specs.laws.Spelling.{Begun}
use Rattle.hexadecimals.proofs.read.Given as goal

abbrev pub invariant-loop-i : goal.invariant-loop-i
invariant-loop-i l = Begun l.line l.bytes l.i l.most
