-- `a - b` of two `Log` meets its contract. Assumes nothing.
use Rattle.fixed.proofs.Sums.{difference_returns}
use Rattle.fixed.proofs.LogSub.sub.Goals as goal

pub returns : goal.returns
returns c =
    difference_returns c.requires
