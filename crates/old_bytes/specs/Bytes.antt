-- The 58 bytes of an old case (request 3): substance, state, placement, surroundings, then six fields of nine bytes, each a tag and a double, high byte first.
use Rattle.std.specs.Prelude.{ℕ, Bool, not, ◌||◌, List, ◌++◌, eqb, Float}
use Rattle.std.specs.Float.{binary64}
use Rattle.std.specs.Float.Ieee.{of_bits, to_bits}
use Rattle.byte_numbers.specs.Numbers.{one_at, eight_at, one, eight}
use Rattle.fields.specs.Bytes.{settings}
use Rattle.old_case.specs.declared.OldField.{OldField}
use Rattle.old_case.specs.declared.OldField.TheVariants.{MassKg, MeanG, StoichiometricG, HeatMj, DistanceM, BodyKg}
use Rattle.old_case.specs.declared.OldCase.{OldCase}
pub use Rattle.old_case.specs.Fields.{tag_of}
use Rattle.old_case.specs.Fields.{value_of}

unfoldable pub field_bytes : OldField → List ℕ
field_bytes f = one (tag_of f) ++ eight (to_bits binary64 (value_of f))

-- the double in the eight bytes from a place on
abbrev pub double_at : List ℕ → ℕ → Float
double_at s at = of_bits binary64 (eight_at s at)

-- what 58 bytes hold
unfoldable pub old_of : List ℕ → OldCase
old_of s =
    record {
      substance = one_at s 0;
      state = one_at s 1;
      placement = one_at s 2;
      surroundings = one_at s 3;
      mass = double_at s 5;
      mean = double_at s 14;
      stoichiometric = double_at s 23;
      heat = double_at s 32;
      distance = double_at s 41;
      body = double_at s 50;
    }

unfoldable pub old_bytes : OldCase → List ℕ
old_bytes o =
    settings o.substance o.state o.placement o.surroundings
    ++ field_bytes (MassKg o.mass)
    ++ field_bytes (MeanG o.mean)
    ++ field_bytes (StoichiometricG o.stoichiometric)
    ++ field_bytes (HeatMj o.heat)
    ++ field_bytes (DistanceM o.distance)
    ++ field_bytes (BodyKg o.body)

-- test 15: one of the six tags is not its field's
unfoldable pub misplaced : List ℕ → Bool
misplaced s =
    not (eqb (one_at s 4) 1)
    || not (eqb (one_at s 13) 2)
    || not (eqb (one_at s 22) 3)
    || not (eqb (one_at s 31) 4)
    || not (eqb (one_at s 40) 5)
    || not (eqb (one_at s 49) 6)
