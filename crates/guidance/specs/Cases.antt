-- What an accepted case is (document 01, "The case frame", "Refused cases"; request 11), for the promises above.
use Rattle.std.specs.Prelude.{ℕ, ◌≤◌, ◌<◌, ◌≡◌, false}
use Rattle.guidance.specs.declared.Case.{Case}
use Rattle.guidance.specs.Substances.{heat_of}
use Rattle.guidance.specs.Distances.{farther, cube24}

-- the air pressures over which everything is proved, Pa
pub record Air (air : ℕ) : Type 0 where
  pub least : 50000 ≤ air
  pub most : air ≤ 110000

-- every field has one of its values
pub record Fields (c : Case) : Type 0 where
  pub substance : c.substance ≤ 75
  pub state : c.state ≤ 1
  pub placement : c.placement ≤ 1
  pub surroundings : 1 ≤ c.surroundings
  pub surroundings_most : c.surroundings ≤ 4
  pub mass : 1 ≤ c.mass
  pub mass_most : c.mass ≤ 1000000000
  pub mean : 1 ≤ c.mean
  pub mean_most : c.mean ≤ 50000
  pub stoichiometric : 1 ≤ c.stoichiometric
  pub stoichiometric_most : c.stoichiometric ≤ 50000
  pub heat_most : c.heat ≤ 150000
  pub distance : 1 ≤ c.distance
  pub distance_most : c.distance ≤ 1000000
  pub body : 1 ≤ c.body
  pub body_most : c.body ≤ 500
  pub air : 5000 ≤ c.air
  pub air_most : c.air ≤ 11000

-- accepted: fields in their values, a heat, and Rx not greater than 24
pub record Accepted (air : ℕ) (c : Case) : Type 0 where
  pub fields : Fields c
  pub heat : 0 < heat_of c.substance c.heat
  pub within : farther cube24 air c ≡ false
