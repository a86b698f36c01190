-- `blast::Explosion::scale` meets its contract. Assumes nothing.
use Rattle.blast.proofs.Reduced.{ready}
use Rattle.blast.proofs.Finals.{energy_rootable, energy_root}
use Rattle.blast.proofs.Explosion.scale.Goals as goal

pub cube_root-root-requires : goal.cube_root-root-requires
cube_root-root-requires c =
    energy_rootable (ready c.args.self.now.at c.args.self.now.accepted) c.energy-joules.ensures

pub returns : goal.returns
returns c =
    record { power = c.air_power-power.ensures; root = energy_root (ready c.args.self.now.at c.args.self.now.accepted) c.energy-joules.ensures c.cube_root-root.ensures }
