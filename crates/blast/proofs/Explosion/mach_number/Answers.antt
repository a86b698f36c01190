-- `blast::Explosion::mach_number` meets its contract. Assumes nothing.
use Rattle.blast.proofs.Deflagrations.{mach_result}
use Rattle.blast.proofs.Explosion.mach_number.Goals as goal

pub returns : goal.returns
returns c =
    mach_result c.args.self.now.at.placed.cloud c.front_speed-v.ensures c.mach.ensures
