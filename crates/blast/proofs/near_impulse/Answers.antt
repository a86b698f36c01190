-- `blast::near_impulse` meets its contract. Assumes nothing.
use native.Mathlib.Omega.{arith}
use Rattle.guidance.specs.Waves.{hundredths, thousandths}
use Rattle.span.specs.Constants.{coefficient}
use Rattle.blast.proofs.Detonations.{near_gas_distance, near_aerosol_result, near_gas_result}
use Rattle.blast.proofs.near_impulse.Goals as goal

pub log_distance-l-requires : goal.log_distance-l-requires
log_distance-l-requires c =
    near_gas_distance (coefficient (thousandths 142) _ _ 991 33 (omega arith))

pub returns-then-state-eq1 : goal.returns-then-state-eq1
returns-then-state-eq1 c =
    near_aerosol_result (coefficient (hundredths 16) _ _ 991 33 (omega arith)) c.if-state-eq1.true

pub returns-else-state-eq1 : goal.returns-else-state-eq1
returns-else-state-eq1 c =
    near_gas_result (coefficient (thousandths 142) _ _ 991 33 (omega arith)) c.if-state-eq1.false c.log_distance-l.ensures c.gas_impulse.ensures
