-- `probits::Exposure::probit5` meets its contract. Assumes nothing.
use Rattle.probits.proofs.Sums.{throw_divides, throw_summed, probit5_of}
use Rattle.probits.proofs.Exposure.probit5.Goals as goal

pub quo-b-requires : goal.quo-b-requires
quo-b-requires c =
    throw_divides c.args.self.now.loaded c.quo-a.ensures c.mul.ensures

pub falling-requires : goal.falling-requires
falling-requires c =
    throw_summed c.args.self.now.loaded c.quo-a.ensures c.mul.ensures c.quo-b.ensures c.add.ensures

pub returns : goal.returns
returns c =
    probit5_of c.args.self.now.loaded c.quo-a.ensures c.mul.ensures c.quo-b.ensures c.add.ensures c.falling.ensures
