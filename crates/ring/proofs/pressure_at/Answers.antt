-- `ring::pressure_at` meets its contract. Assumes nothing.
use Rattle.ring.specs.laws.Standing.{standing_accepted}
use Rattle.ring.proofs.pressure_at.Goals as goal

pub of-requires : goal.of-requires
of-requires c =
    let e = c.at_distance-there.ensures in rw (e.1, e.0) (standing_accepted c.requires)
