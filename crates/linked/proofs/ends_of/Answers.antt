-- `linked::ends_of` meets its contract: in the case's own air. Assumes nothing.
use Rattle.blast.proofs.Ending.{wave_ends}
use Rattle.linked.proofs.ends_of.Goals as goal

pub returns-in-Overpressure : goal.returns-in-Overpressure
returns-in-Overpressure c =
    rw c.in-Overpressure.is (rw c.air_of-air.ensures at (wave_ends c.pressure.ensures))

pub returns-in-Impulse : goal.returns-in-Impulse
returns-in-Impulse c =
    rw c.in-Impulse.is (rw c.air_of-air.ensures at (wave_ends c.impulse.ensures))
