-- One field of the old form (request 3): a double in its own unit.
use Rattle.std.specs.Prelude.{ℕ, Float}
use Rattle.doubles.specs.Doubles.{rounded}
use Rattle.old_case.specs.declared.OldField.{OldField}
use Rattle.old_case.specs.declared.OldField.TheVariants.{MassKg, MeanG, StoichiometricG, HeatMj, DistanceM, BodyKg}

-- the number that names the field
abbrev pub tag_of : OldField → ℕ
tag_of (MassKg x) = 1
tag_of (MeanG x) = 2
tag_of (StoichiometricG x) = 3
tag_of (HeatMj x) = 4
tag_of (DistanceM x) = 5
tag_of (BodyKg x) = 6

abbrev pub value_of : OldField → Float
value_of (MassKg x) = x
value_of (MeanG x) = x
value_of (StoichiometricG x) = x
value_of (HeatMj x) = x
value_of (DistanceM x) = x
value_of (BodyKg x) = x

-- how many of a frame's units the field's unit holds
abbrev pub scale_of : OldField → ℕ
scale_of (MassKg x) = 1000
scale_of (MeanG x) = 10
scale_of (StoichiometricG x) = 10
scale_of (HeatMj x) = 1000
scale_of (DistanceM x) = 100
scale_of (BodyKg x) = 1

-- the whole number that a frame has for the field
abbrev pub whole_of : OldField → ℕ
whole_of f = rounded (scale_of f) (value_of f)
