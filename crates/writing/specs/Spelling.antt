-- The one spelling of a case: its frame in upper-case digits, with heat 0 for a given heat that equals the table's (requests 9 and 11).
use Rattle.std.specs.Prelude.{ℕ, ◌≡◌, cond, List, eqb}
use Rattle.guidance.specs.declared.Case.{Case}
use Rattle.guidance.specs.Substances.{heat_of}
use Rattle.hexadecimals.specs.Written.{digits_of}
use Rattle.fields.specs.Bytes.{frame_bytes}

-- the table's heat is the effective one where none is given; without β it is 0, and no accepted case has heat 0 then
unfoldable pub spelled_heat : (substance given : ℕ) → ℕ
spelled_heat substance given = cond (eqb given (heat_of substance 0)) 0 given

-- the case as it is spelled
unfoldable pub as_spelled : Case → Case
as_spelled c =
    record {
      substance = c.substance;
      state = c.state;
      placement = c.placement;
      surroundings = c.surroundings;
      mass = c.mass;
      mean = c.mean;
      stoichiometric = c.stoichiometric;
      heat = spelled_heat c.substance c.heat;
      distance = c.distance;
      body = c.body;
      air = c.air;
    }

unfoldable pub spelling : Case → List ℕ
spelling c = digits_of (frame_bytes (as_spelled c))

-- two cases that agree: in substance, settings, other quantities and effective heat
pub record Agree (c d : Case) : Type 0 where
  pub substance : c.substance ≡ d.substance
  pub state : c.state ≡ d.state
  pub placement : c.placement ≡ d.placement
  pub surroundings : c.surroundings ≡ d.surroundings
  pub mass : c.mass ≡ d.mass
  pub mean : c.mean ≡ d.mean
  pub stoichiometric : c.stoichiometric ≡ d.stoichiometric
  pub heat : heat_of c.substance c.heat ≡ heat_of d.substance d.heat
  pub distance : c.distance ≡ d.distance
  pub body : c.body ≡ d.body
  pub air : c.air ≡ d.air
