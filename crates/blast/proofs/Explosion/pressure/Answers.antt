-- `blast::Explosion::pressure` meets its contract:
-- the whole pascals around the span of ΔP, closed by its width.
-- Assumes nothing.
use Rattle.blast.proofs.Ending.{pressure_roundable, pressure_ended}
use Rattle.blast.proofs.Finals.{pressure_span}
use Rattle.blast.proofs.Explosion.pressure.Goals as goal

pub ends-requires : goal.ends-requires
ends-requires c =
    pressure_roundable (pressure_span _ _ c.reduced_pressure-px.ensures c.pascals-p.ensures)

pub returns : goal.returns
returns c =
    pressure_ended (pressure_span _ _ c.reduced_pressure-px.ensures c.pascals-p.ensures) c.ends.ensures
