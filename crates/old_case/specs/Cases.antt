-- A case as the old form holds it (request 3): test 16, and the case of whole numbers.
use Rattle.std.specs.Prelude.{Bool, ◌&&◌, ◌||◌, eqb}
use Rattle.std.specs.Float.Ieee.{lt}
use Rattle.guidance.specs.declared.Case.{Case}
use Rattle.guidance.specs.AirPressure.{standard}
use Rattle.doubles.specs.Doubles.{whole, unusable, nearest}
use Rattle.old_case.specs.declared.OldField.TheVariants.{MassKg, MeanG, StoichiometricG, HeatMj, DistanceM, BodyKg}
use Rattle.old_case.specs.declared.OldCase.{OldCase}
use Rattle.old_case.specs.Fields.{whole_of}

-- test 16: an unusable double in any field
unfoldable pub unusable_in : OldCase → Bool
unusable_in o =
    unusable o.mass
    || unusable o.mean
    || unusable o.stoichiometric
    || unusable o.heat
    || unusable o.distance
    || unusable o.body

-- the way in, to whole numbers of any size, in the standard air (request 11)
unfoldable pub case_of : OldCase → Case
case_of o =
    record {
      substance = o.substance;
      state = o.state;
      placement = o.placement;
      surroundings = o.surroundings;
      mass = whole_of (MassKg o.mass);
      mean = whole_of (MeanG o.mean);
      stoichiometric = whole_of (StoichiometricG o.stoichiometric);
      heat = whole_of (HeatMj o.heat);
      distance = whole_of (DistanceM o.distance);
      body = whole_of (BodyKg o.body);
      air = standard;
    }

-- a positive heat whose whole number is 0
unfoldable pub lost_heat : OldCase → Bool
lost_heat o = lt (whole 0) o.heat && eqb (whole_of (HeatMj o.heat)) 0

-- the way back: each double is the nearest to its fraction
unfoldable pub old_case_of : Case → OldCase
old_case_of c =
    record {
      substance = c.substance;
      state = c.state;
      placement = c.placement;
      surroundings = c.surroundings;
      mass = nearest 1000 c.mass;
      mean = nearest 10 c.mean;
      stoichiometric = nearest 10 c.stoichiometric;
      heat = nearest 1000 c.heat;
      distance = nearest 100 c.distance;
      body = nearest 1 c.body;
    }
