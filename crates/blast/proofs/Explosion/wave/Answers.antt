-- `blast::Explosion::wave` meets its contract. Assumes nothing.
use Rattle.guidance.specs.Waves.{overpressure, impulse}
use Rattle.blast.proofs.Explosion.wave.Goals as goal

pub returns : goal.returns
unfolding overpressure impulse
returns c =
    c.scaled.ensures.wave _ _ c.reduced_pressure-px.ensures c.reduced_impulse-ix.ensures
