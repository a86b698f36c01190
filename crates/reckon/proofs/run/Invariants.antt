-- `reckon::run` meets its contract: each turn is one read more, and the stream is past what it brought. Assumes nothing.
use Rattle.reckon.proofs.Running.{Running}
use Rattle.reckon.proofs.run.Given as goal

abbrev pub invariant-loop-reads : goal.invariant-loop-reads
invariant-loop-reads l = Running l.stream l.reads
