-- The fields of a case frame, numbers unsigned, high byte first: ten in 22 bytes (document 01, "The case frame"), and the air pressure in two more
-- or, where it is the standard one, in none (request 11).
use Rattle.std.specs.Prelude.{ℕ, cond, List, [], ◌++◌, length, eqb}
use Rattle.byte_numbers.specs.Numbers.{one_at, two_at, four_at, one, two, four}
use Rattle.guidance.specs.declared.Case.{Case}
use Rattle.guidance.specs.AirPressure.{standard}

-- the last two of 24 bytes; a frame of 22 has the standard pressure
unfoldable pub air_in : List ℕ → ℕ
air_in frame = cond (eqb (length frame) 24) (two_at frame 22) standard

unfoldable pub fields_of : List ℕ → Case
fields_of frame =
    record {
      substance = one_at frame 0;
      state = one_at frame 1;
      placement = one_at frame 2;
      surroundings = one_at frame 3;
      mass = four_at frame 4;
      mean = two_at frame 8;
      stoichiometric = two_at frame 10;
      heat = four_at frame 12;
      distance = four_at frame 16;
      body = two_at frame 20;
      air = air_in frame;
    }

-- substance and settings, a byte each
unfoldable pub settings : (substance state placement surroundings : ℕ) → List ℕ
settings substance state placement surroundings = one substance ++ one state ++ one placement ++ one surroundings

-- the first 22 bytes of a case's frame
unfoldable pub first_bytes : Case → List ℕ
first_bytes c =
    settings c.substance c.state c.placement c.surroundings
    ++ four c.mass
    ++ two c.mean
    ++ two c.stoichiometric
    ++ four c.heat
    ++ four c.distance
    ++ two c.body

-- two bytes of air pressure, and none of the standard one
unfoldable pub air_bytes : ℕ → List ℕ
air_bytes air = cond (eqb air standard) [] (two air)

-- a case's frame, in 22 or 24 bytes
unfoldable pub frame_bytes : Case → List ℕ
frame_bytes c = first_bytes c ++ air_bytes c.air

-- the same in 24 bytes, whatever the air pressure (request 12)
unfoldable pub long_frame : Case → List ℕ
long_frame c = first_bytes c ++ two c.air
