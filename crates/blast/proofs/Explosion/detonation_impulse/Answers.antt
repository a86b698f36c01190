-- `blast::Explosion::detonation_impulse` meets its contract. Assumes nothing.
use Rattle.blast.proofs.Detonations.{told_near, told_heterogeneous, told_gas, near_impulse_lem, heterogeneous_impulse, gas_impulse_lem}
use Rattle.blast.proofs.Explosion.detonation_impulse.Goals as goal

pub returns-in-Near : goal.returns-in-Near
returns-in-Near c =
    near_impulse_lem (told_near c.requires c.in-Near.is) c.near_impulse.ensures

pub returns-in-Heterogeneous : goal.returns-in-Heterogeneous
returns-in-Heterogeneous c =
    heterogeneous_impulse (told_heterogeneous c.requires c.in-Heterogeneous.is) c.aerosol_impulse.ensures

pub returns-in-Gas : goal.returns-in-Gas
returns-in-Gas c =
    gas_impulse_lem (told_gas c.requires c.in-Gas.is) c.gas_impulse.ensures
