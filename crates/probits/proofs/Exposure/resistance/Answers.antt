-- `probits::Exposure::resistance` meets its contract. Assumes nothing.
use Rattle.probits.proofs.Sums.{resistance_of}
use Rattle.probits.proofs.Exposure.resistance.Goals as goal

pub returns : goal.returns
returns c =
    resistance_of c.air_root-a.ensures c.root-b.ensures c.mul.ensures c.mul-2.ensures
