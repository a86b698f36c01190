-- `blast::Explosion::reduced_impulse` meets its contract. Assumes nothing.
use native.Mathlib.Omega.{arith}
use Rattle.guidance.specs.Waves.{reduced_impulse}
use Rattle.blast.specs.Windows.{deflagration_impulse_window}
use Rattle.blast.proofs.Deflagrations.{told_burning, deflagration_impulse_lem, detonation_alone, smaller_of_both}
use Rattle.blast.proofs.Explosion.reduced_impulse.Goals as goal

pub returns-in-None : goal.returns-in-None
unfolding reduced_impulse
returns-in-None c =
    detonation_alone _ _ _ deflagration_impulse_window _ (omega arith) (omega arith) c.detonation_impulse-d.ensures (rw c.in-None.is at c.requires.deflagration)

pub returns-in-Some : goal.returns-in-Some
unfolding reduced_impulse
returns-in-Some c =
    let b = told_burning c.requires.deflagration c.in-Some.is in
    smaller_of_both _ _ _ _ _ (omega arith) (omega arith) c.detonation_impulse-d.ensures b.burns (deflagration_impulse_lem b.flame c.impulse-i.ensures) c.lesser.ensures
