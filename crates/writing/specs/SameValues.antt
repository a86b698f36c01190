-- Two cases with the same range and the same seven values, formula for formula, each in its own air; both beyond or neither.
use Rattle.std.specs.Prelude.{◌≡◌}
use Rattle.guidance.specs.declared.Case.{Case}
use Rattle.guidance.specs.AirPressure.{air_of}
use Rattle.guidance.specs.Clouds.{range_of}
use Rattle.guidance.specs.Distances.{farther, cube24}
use Rattle.guidance.specs.Waves.{overpressure, impulse}
use Rattle.guidance.specs.Probits.{probit1, probit2, probit3, probit4, probit5}

pub record SameValues (c d : Case) : Type 0 where
  pub range : range_of c ≡ range_of d
  pub beyond : farther cube24 (air_of c) c ≡ farther cube24 (air_of d) d
  pub overpressure : overpressure (air_of c) c ≡ overpressure (air_of d) d
  pub impulse : impulse (air_of c) c ≡ impulse (air_of d) d
  pub probit1 : probit1 (air_of c) c ≡ probit1 (air_of d) d
  pub probit2 : probit2 (air_of c) c ≡ probit2 (air_of d) d
  pub probit3 : probit3 (air_of c) c ≡ probit3 (air_of d) d
  pub probit4 : probit4 (air_of c) c ≡ probit4 (air_of d) d
  pub probit5 : probit5 (air_of c) c ≡ probit5 (air_of d) d
