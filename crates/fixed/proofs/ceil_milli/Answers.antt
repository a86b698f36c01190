-- `fixed::ceil_milli` meets its contract. Assumes nothing.
use Rattle.fixed.proofs.Rounding.{ceil_returns}
use Rattle.fixed.proofs.ceil_milli.Goals as goal

pub returns : goal.returns
returns c =
    ceil_returns c.requires
