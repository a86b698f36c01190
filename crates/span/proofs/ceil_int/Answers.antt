-- `span::ceil_int` meets its contract. Assumes nothing.
use Rattle.std.proofs.Common.{arith}
use Rattle.span.proofs.Comparisons.{ceiled}
use Rattle.span.proofs.ceil_int.Goals as goal

pub returns : goal.returns
returns c =
    ceiled _ _ _ (omega arith) c.shr_up.ensures
