-- `blast::air_power` meets its contract. Assumes nothing.
-- by cubes: a quarter of 2^-19 past the lower end is below 101300², and one before the upper end above
use mathlib.Core.Path.{refl}
use native.Mathlib.Omega.{arith}
use Rattle.exact.specs.Fraction.{whole, ◌⊗◌, power}
use Rattle.enclosure.specs.PowerWindows.{quarters}
use Rattle.blast.proofs.Roots.{air_powerable, air_result, standard_result}
use Rattle.blast.proofs.air_power.Goals as goal

pub returns-then-air-eq-STANDARD_AIR : goal.returns-then-air-eq-STANDARD_AIR
unfolding quarters power whole ◌⊗◌
returns-then-air-eq-STANDARD_AIR c =
    standard_result {j = 19} c.requires c.if-air-eq-STANDARD_AIR.true (omega arith)

pub sixth_power-requires : goal.sixth_power-requires
sixth_power-requires c =
    air_powerable c.requires c.whole-p.ensures _ (omega arith)

pub returns : goal.returns
returns c =
    air_result c.requires c.whole-p.ensures refl c.sixth_power.ensures
