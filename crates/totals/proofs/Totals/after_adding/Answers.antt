-- `totals::Totals::after_adding` meets its contract. Assumes nothing.
use Rattle.std.proofs.Common.{arith}
use Rattle.std.proofs.lemmas.Bool.Decides.{nat_tests}
use Rattle.totals.specs.Keeping.{after_adding}
use Rattle.totals.proofs.Totals.after_adding.Goals as goal

pub returns-then-self-lt64 : goal.returns-then-self-lt64
unfolding after_adding
returns-then-self-lt64 c =
    grind (arith, nat_tests)

pub returns-else-self-lt64 : goal.returns-else-self-lt64
unfolding after_adding
returns-else-self-lt64 c =
    grind (arith, nat_tests)
