-- `blast::Explosion::scaled` meets its contract. Assumes nothing.
use Rattle.blast.proofs.Explosion.scaled.Goals as goal

pub returns : goal.returns
returns c =
    record {
      wave = λ x y e i.
          record { pressure = c.pascals-pressure.ensures.value x e; impulse = c.pascal_seconds-impulse.ensures.value y i };
    }
