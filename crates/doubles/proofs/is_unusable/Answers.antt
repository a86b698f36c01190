-- `doubles::is_unusable` meets its contract. Assumes nothing.
use Rattle.std.proofs.Common.{◌≡◌, arith, Float, ◌||◌}
use Rattle.std.specs.Float.{binary64}
use Rattle.std.specs.Float.Ieee.{is_nan, lt, of_bits}
use Rattle.doubles.specs.Doubles.{unusable}
use Rattle.doubles.specs.laws.Values.{zero_bits, billion_bits, three_tests}
use Rattle.doubles.proofs.is_unusable.Goals as goal
use Rattle.doubles.proofs.is_unusable.Goals.{then-is_nan, else-is_nan}

in_bits : (x : Float) → (is_nan x || lt x (of_bits binary64 0) || lt (of_bits binary64 0x41cd_cd65_0000_0000) x) ≡ unusable x
in_bits x = rw (zero_bits, billion_bits) (three_tests x)

pub returns-then-x : goal.returns-then-x
returns-then-x c =
    let e = in_bits c.args.x in
    elim c.if-is_nan.branch [ then-is_nan w ↦ grind (arith, e) | else-is_nan w ↦ grind (arith, e) ]

pub returns-else-x : goal.returns-else-x
returns-else-x c =
    let e = in_bits c.args.x in
    elim c.if-is_nan.branch [ then-is_nan w ↦ grind (arith, e) | else-is_nan w ↦ grind (arith, e) ]
