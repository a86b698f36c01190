-- `blast::Explosion::pascals` meets its contract. Assumes nothing.
use Rattle.blast.proofs.Finals.{pressure_factors, in_pascals_lem}
use Rattle.blast.proofs.Explosion.pascals.Goals as goal

pub mul-requires : goal.mul-requires
mul-requires c =
    pressure_factors c.args.self.now.at.placed.pressure c.requires c.whole-p.ensures

pub returns : goal.returns
returns c =
    in_pascals_lem c.args.self.now.at.placed.pressure c.requires c.whole-p.ensures c.mul.ensures
