-- `a + b` of two `Log` meets its contract. Assumes nothing.
use Rattle.fixed.proofs.Sums.{sum_returns}
use Rattle.fixed.proofs.LogAdd.add.Goals as goal

pub returns : goal.returns
returns c =
    sum_returns c.requires
