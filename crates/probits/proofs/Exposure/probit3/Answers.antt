-- `probits::Exposure::probit3` meets its contract. Assumes nothing.
use Rattle.probits.proofs.Sums.{lung_summed, probit3_of}
use Rattle.probits.proofs.Exposure.probit3.Goals as goal

pub falling-requires : goal.falling-requires
falling-requires c =
    lung_summed c.args.self.now.loaded c.lung_pressure-a.ensures c.resistance.ensures c.quo-b.ensures c.add.ensures

pub returns : goal.returns
returns c =
    probit3_of c.args.self.now.loaded c.lung_pressure-a.ensures c.resistance.ensures c.quo-b.ensures c.add.ensures c.falling.ensures
