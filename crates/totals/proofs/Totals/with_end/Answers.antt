-- `totals::Totals::with_end` meets its contract. Assumes nothing.
use Rattle.std.proofs.Common.{arith}
use Rattle.std.proofs.lemmas.Bool.Decides.{nat_tests}
use Rattle.totals.specs.Keeping.{including}
use Rattle.totals.proofs.Totals.with_end.Goals as goal

pub returns-then-self-upper : goal.returns-then-self-upper
unfolding including
returns-then-self-upper c =
    let e = c.if-self-upper.either in grind (arith, nat_tests)

pub returns-else-self-upper : goal.returns-else-self-upper
unfolding including
returns-else-self-upper c =
    let e = c.if-self-upper.false in grind (arith, nat_tests)
