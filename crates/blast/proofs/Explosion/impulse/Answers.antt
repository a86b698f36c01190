-- `blast::Explosion::impulse` meets its contract. Assumes nothing.
use Rattle.blast.proofs.Ending.{impulse_roundable, impulse_ended}
use Rattle.blast.proofs.Finals.{impulse_span}
use Rattle.blast.proofs.Explosion.impulse.Goals as goal

pub ends-requires : goal.ends-requires
ends-requires c =
    impulse_roundable (impulse_span _ _ c.reduced_impulse-ix.ensures c.pascal_seconds-i.ensures)

pub returns : goal.returns
returns c =
    impulse_ended (impulse_span _ _ c.reduced_impulse-ix.ensures c.pascal_seconds-i.ensures) c.ends.ensures
