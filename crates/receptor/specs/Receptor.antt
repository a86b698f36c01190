-- A case with another distance, and the farthest distance at which it is accepted (document 02, point 1).
use Rattle.std.specs.Prelude.{ℕ, zero, suc, cond}
use Rattle.guidance.specs.declared.Case.{Case}
use Rattle.guidance.specs.Distances.{farther, cube24}

-- the case with its distance replaced, cm
unfoldable pub moved : Case → (distance : ℕ) → Case
moved c d =
    record {
      substance = c.substance;
      state = c.state;
      placement = c.placement;
      surroundings = c.surroundings;
      mass = c.mass;
      mean = c.mean;
      stoichiometric = c.stoichiometric;
      heat = c.heat;
      distance = d;
      body = c.body;
      air = c.air;
    }

-- the greatest distance up to `most` at which Rx is not greater than 24; 0 if there is none
unfoldable pub last_within : (air : ℕ) → Case → (most : ℕ) → ℕ
last_within air c zero = zero
last_within air c (suc d) = cond (farther cube24 air (moved c (suc d))) (last_within air c d) (suc d)

-- the last accepted distance, by Rx and by 1,000,000 cm
abbrev pub farthest : (air : ℕ) → Case → ℕ
farthest air c = last_within air c 1000000
