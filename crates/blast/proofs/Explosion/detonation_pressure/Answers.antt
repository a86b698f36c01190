-- `blast::Explosion::detonation_pressure` meets its contract. Assumes nothing.
use native.Mathlib.Omega.{arith}
use Rattle.exact.specs.Fraction.{whole}
use Rattle.span.specs.Constants.{coefficient}
use Rattle.blast.proofs.Detonations.{told_near, told_heterogeneous, told_gas, near_pressure, heterogeneous_pressure, gas_pressure_lem}
use Rattle.blast.proofs.Explosion.detonation_pressure.Goals as goal

pub returns-in-Near : goal.returns-in-Near
unfolding whole
returns-in-Near c =
    near_pressure (told_near c.requires c.in-Near.is) (coefficient (whole 18) _ _ 998 26 (omega arith))

pub returns-in-Heterogeneous : goal.returns-in-Heterogeneous
returns-in-Heterogeneous c =
    heterogeneous_pressure (told_heterogeneous c.requires c.in-Heterogeneous.is) c.aerosol_pressure.ensures

pub returns-in-Gas : goal.returns-in-Gas
returns-in-Gas c =
    gas_pressure_lem (told_gas c.requires c.in-Gas.is) c.gas_pressure.ensures
