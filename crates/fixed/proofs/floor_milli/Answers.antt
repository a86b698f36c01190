-- `fixed::floor_milli` meets its contract. Assumes nothing.
use Rattle.fixed.proofs.Rounding.{floor_returns}
use Rattle.fixed.proofs.floor_milli.Goals as goal

pub returns : goal.returns
returns c =
    floor_returns c.requires
