-- What the private steps of the entries promise: the numbers of an answer, before they are written. Assumes nothing.
use Rattle.std.specs.Prelude.{ℕ, ◌≤◌, ◌≡◌, List, length, Ok}
use Rattle.guidance.specs.declared.Case.{Case}
use Rattle.guidance.specs.Cases as cases
use Rattle.guidance.specs.Clouds.{range_of}
use Rattle.guidance.specs.AirPressure.{air_of}
use Rattle.guidance.specs.Waves.{overpressure, impulse}
use Rattle.guidance.specs.Probits.{probit1, probit2, probit3, probit4, probit5}
use Rattle.frame.specs.Verdict.{Verdict}
use Rattle.answer.specs.declared.Figures.{Figures}
use Rattle.blast.specs.WaveEnds.{WaveEnds}
use Rattle.answer.specs.Answer.{ProbitEnds, Answered}

pub record FiguresOf (c : Case) (f : Figures) : Type 0 where
  pub range : f.range ≡ range_of c
  pub small : f.range ≤ 6
  pub pressure_ends : WaveEnds (overpressure (air_of c) c) f.pressure
  pub impulse_ends : WaveEnds (impulse (air_of c) c) f.impulse
  pub first : ProbitEnds (probit1 (air_of c) c) f.probits.first
  pub second : ProbitEnds (probit2 (air_of c) c) f.probits.second
  pub third : ProbitEnds (probit3 (air_of c) c) f.probits.third
  pub fourth : ProbitEnds (probit4 (air_of c) c) f.probits.fourth
  pub fifth : ProbitEnds (probit5 (air_of c) c) f.probits.fifth

-- an accepted case and room for its answer
pub record Due (c : Case) (area : List ℕ) : Type 0 where
  pub accepted : cases.Accepted (air_of c) c
  pub room : 77 ≤ length area

-- a verdict over an area: an accepted case is due its answer
abbrev pub Enterable : Verdict → List ℕ → Type 0
Enterable v area = (c : Case) → v ≡ Ok c → Due c area

-- the verdict comes back, and the area is as it says
pub record Entered (v : Verdict) (before : List ℕ) (r : Verdict) (after : List ℕ) : Type 0 where
  pub verdict : r ≡ v
  pub area : Answered r before after
