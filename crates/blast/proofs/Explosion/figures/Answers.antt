-- `blast::Explosion::figures` meets its contract. Assumes nothing.
use Rattle.blast.proofs.OneRule.{some, deflagrated_pressure, deflagrated_impulse, detonated_pressure, detonated_impulse}
use Rattle.blast.proofs.Explosion.figures.Goals as goal

pub scaled-deflagration-requires : goal.scaled-deflagration-requires
scaled-deflagration-requires c =
    let f = c.flame-f.ensures in
    (c.scale-s.ensures, some (deflagrated_pressure f c.pressure-fp.ensures), some (deflagrated_impulse f c.impulse-fi.ensures))

pub scaled-detonation-requires : goal.scaled-detonation-requires
scaled-detonation-requires c =
    (c.scale-s.ensures, some (detonated_pressure c.detonation_pressure-dp.ensures), some (detonated_impulse c.detonation_impulse-di.ensures))

pub returns : goal.returns
returns c =
    let f = c.flame-f.ensures in
    record {
      deflagration = c.scaled-deflagration.ensures.wave _ _ (deflagrated_pressure f c.pressure-fp.ensures) (deflagrated_impulse f c.impulse-fi.ensures);
      detonation =
          c.scaled-detonation.ensures.wave _ _ (detonated_pressure c.detonation_pressure-dp.ensures) (detonated_impulse c.detonation_impulse-di.ensures);
    }
