-- `blast::Explosion::reduced_pressure` meets its contract. Assumes nothing.
use native.Mathlib.Omega.{arith}
use Rattle.guidance.specs.Waves.{reduced_pressure}
use Rattle.blast.specs.Windows.{deflagration_pressure_window}
use Rattle.blast.proofs.Deflagrations.{told_burning, deflagration_pressure_lem, detonation_alone, smaller_of_both}
use Rattle.blast.proofs.Explosion.reduced_pressure.Goals as goal

pub returns-in-None : goal.returns-in-None
unfolding reduced_pressure
returns-in-None c =
    detonation_alone _ _ _ deflagration_pressure_window _ (omega arith) (omega arith) c.detonation_pressure-d.ensures (rw c.in-None.is at c.requires.deflagration)

pub returns-in-Some : goal.returns-in-Some
unfolding reduced_pressure
returns-in-Some c =
    let b = told_burning c.requires.deflagration c.in-Some.is in
    smaller_of_both _ _ _ _ _ (omega arith) (omega arith) c.detonation_pressure-d.ensures b.burns (deflagration_pressure_lem b.flame c.pressure-p.ensures) c.lesser.ensures
