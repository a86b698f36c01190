-- `span::floor_int` meets its contract. Assumes nothing.
use Rattle.std.proofs.Common.{arith}
use Rattle.span.proofs.Comparisons.{floored}
use Rattle.span.proofs.floor_int.Goals as goal

pub returns : goal.returns
returns c =
    floored _ _ _ (omega arith) c.shr_down.ensures
