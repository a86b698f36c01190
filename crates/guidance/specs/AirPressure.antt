-- The air pressure P0 of a case: its own, in its frame in units of 10 Pa (request 11).
use Rattle.std.specs.Prelude.{ℕ, ◌*◌}
use Rattle.guidance.specs.declared.Case.{Case}

-- 101,300 Pa (001), which a frame of 22 bytes has
abbrev pub standard : ℕ
standard = 10130

-- P0 in Pa
abbrev pub air_of : Case → ℕ
air_of c = 10 * c.air

-- the case in another air
unfoldable pub in_air : Case → (air : ℕ) → Case
in_air c air =
    record {
      substance = c.substance;
      state = c.state;
      placement = c.placement;
      surroundings = c.surroundings;
      mass = c.mass;
      mean = c.mean;
      stoichiometric = c.stoichiometric;
      heat = c.heat;
      distance = c.distance;
      body = c.body;
      air = air;
    }
