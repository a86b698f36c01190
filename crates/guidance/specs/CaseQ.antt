-- Case Q (document 01, "Known cases") in other air (request 11), for the table of starred cases: not part of the guidance.
use Rattle.std.specs.Prelude.{ℕ, ◌*◌, ◌≤◌, ◌≡◌}
use Rattle.guidance.specs.declared.Case.{Case}

-- unlisted, raised, surroundings 1, c = s = 1, 70 kg; 100 g and 1,013 J/g in the standard air are 01's own
abbrev pub q_in : (mass heat air state distance : ℕ) → Case
q_in mass heat air state distance =
    record {
      substance = 0;
      state = state;
      placement = 0;
      surroundings = 1;
      mass = mass;
      mean = 1;
      stoichiometric = 1;
      heat = heat;
      distance = distance;
      body = 70;
      air = air;
    }

-- mass times heat is P0, and the air pressure is permitted: so E is P0, and Rx is the distance in metres
pub record EqualToAir (mass heat air : ℕ) : Type 0 where
  pub product : mass * heat ≡ 10 * air
  pub least : 5000 ≤ air
  pub most : air ≤ 11000
