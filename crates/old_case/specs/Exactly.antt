-- An old case whose doubles come back unchanged (request 3): each is the nearest to a fraction of its scale, and none is minus zero.
use Rattle.doubles.specs.RoundTrip.{Exactly}
use Rattle.old_case.specs.declared.OldCase.{OldCase}

pub record AllExactly (o : OldCase) : Type 0 where
  pub mass : Exactly 1000 o.mass
  pub mean : Exactly 10 o.mean
  pub stoichiometric : Exactly 10 o.stoichiometric
  pub heat : Exactly 1000 o.heat
  pub distance : Exactly 100 o.distance
  pub body : Exactly 1 o.body
