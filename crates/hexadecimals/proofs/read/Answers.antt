-- `hexadecimals::read` meets its contract: each turn works two characters. Assumes nothing.
use native.Mathlib.Omega.{arith}
use Rattle.hexadecimals.specs.laws.Spelling.{again, all_told, all_bytes}
use Rattle.hexadecimals.proofs.read.Goals as goal

pub loop-i-preserved : goal.loop-i-preserved
loop-i-preserved c =
    again c.loop-i.invariant (omega arith) (omega arith) c.digit_of-high.ensures c.digit_of-low.ensures c.max.ensures c.max-most.ensures

pub returns-clause-told : goal.returns-clause-told
returns-clause-told c =
    all_told c.loop-i.invariant (omega arith) (omega arith)

pub returns-clause-bytes : goal.returns-clause-bytes
returns-clause-bytes c =
    all_bytes c.loop-i.invariant (omega arith) (omega arith)
