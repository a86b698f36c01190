-- The upper end that a sheet keeps with a case (request 8).
use Rattle.std.specs.Prelude.{ℕ}
use Rattle.guidance.specs.declared.Case.{Case}
use Rattle.guidance.specs.AirPressure.{air_of}
use Rattle.guidance.specs.Waves.{overpressure}
use Rattle.blast.specs.WaveEnds.{WaveEnds}

-- an upper end of the exact ΔP of c in its own air, within the width rule; it is open but for that
pub record UpperEnd (c : Case) (upper : ℕ) : Type 0 where
  pub lower : ℕ
  pub ends : WaveEnds (overpressure (air_of c) c) (record { lower = lower; upper = upper })
