-- `probits::Exposure::withstood` meets its contract. Assumes nothing.
use Rattle.probits.proofs.Sums.{withstood}
use Rattle.probits.proofs.Exposure.withstood.Goals as goal

pub returns : goal.returns
returns c =
    withstood c.ratio_power-a.ensures c.ratio_power-b.ensures c.add.ensures c.falling.ensures
