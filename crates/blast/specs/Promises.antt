-- What is promised to the crates above: spans that enclose ΔP and I of an accepted case, and whole numbers around them. The ends are open but for
-- that.
use Rattle.std.specs.Prelude.{ℕ, ◌≤◌, ◌<◌}
use Rattle.exact.specs.Formula.{Formula}
use Rattle.exact.specs.Exact.{AnyTwoMeet}
use Rattle.exact.specs.Holding.{Holds}
use Rattle.span.specs.declared.Span.{Span}
use Rattle.span.specs.Spans.{Normal, Width, Floor, Ceiling}
use Rattle.span.specs.Wholes.{wholes}
use Rattle.span.specs.Enclosing.{Encloses}
use Rattle.enclosure.specs.Promises.{enough}
use Rattle.waves.specs.EndBounds.{LowerAtMost}
use Rattle.guidance.specs.declared.Case.{Case}
use Rattle.guidance.specs.declared.Cloud.{Cloud}
use Rattle.guidance.specs.CloudWords.{CloudOf}
use Rattle.guidance.specs.Waves.{deflagration_pressure, deflagration_impulse, detonation_pressure, detonation_impulse, in_pascals, in_pascal_seconds, overpressure, impulse}
use Rattle.guidance.specs.Cases.{Air, Accepted}
use Rattle.blast.specs.declared.Wave.{Wave}
use Rattle.blast.specs.declared.Figures.{Figures}
use Rattle.blast.specs.Windows.{Window, pressure_window, impulse_window}
use Rattle.blast.specs.WaveEnds.{Closed}
use Rattle.layout.specs.declared.Interval.{Interval}

-- s contains the N-th bracket of x for every N from `enough` on, and lies in the window w
pub record Enclosure (x : Formula) (w : Window) (s : Span) : Type 0 where
  pub normal : Normal s
  pub encloses : (n : ℕ) → enough ≤ n → Encloses s x n
  pub width : Width s w.width
  pub least : w.least ≤ s.e
  pub most : s.e ≤ w.most

-- an accepted case with its cloud, in air of a pressure that is covered
pub record Ready (c : Case) (k : Cloud) (air : ℕ) : Type 0 where
  pub accepted : Accepted air c
  pub cloud : CloudOf c k
  pub pressure : Air air

-- an overpressure, up to 14,080,000 Pa, and an impulse, up to 14,610,071 Pa·s

pub record PressureSpan (x : Formula) (s : Span) : Type 0 where
  pub value : Enclosure x pressure_window s
  pub lower : LowerAtMost s 14080000 1

pub record ImpulseSpan (x : Formula) (s : Span) : Type 0 where
  pub value : Enclosure x impulse_window s
  pub lower : LowerAtMost s 14610071 1

pub record WaveAround (pascals pascal_seconds : Formula) (w : Wave) : Type 0 where
  pub pressure : PressureSpan pascals w.pressure
  pub impulse : ImpulseSpan pascal_seconds w.impulse

-- ΔP and I
abbrev pub WaveOf : (air : ℕ) → Case → Wave → Type 0
WaveOf air c w = WaveAround (overpressure air c) (impulse air c) w

-- ΔP and I by either rule, before the smaller is taken (request 5)

abbrev pub DeflagrationWave : (air : ℕ) → Case → Wave → Type 0
DeflagrationWave air c w = WaveAround (in_pascals air (deflagration_pressure air c)) (in_pascal_seconds air c (deflagration_impulse air c)) w

abbrev pub DetonationWave : (air : ℕ) → Case → Wave → Type 0
DetonationWave air c w = WaveAround (in_pascals air (detonation_pressure air c)) (in_pascal_seconds air c (detonation_impulse air c)) w

pub record FiguresOf (air : ℕ) (c : Case) (f : Figures) : Type 0 where
  pub deflagration : DeflagrationWave air c f.deflagration
  pub detonation : DetonationWave air c f.detonation

-- whole numbers around the value of x, closed by the width rule and below `top`
pub record Ended (x : Formula) (top : ℕ) (e : Interval ℕ) : Type 0 where
  pub holds : Holds (wholes e.lower e.upper) x
  pub meet : AnyTwoMeet x
  pub closed : Closed e.lower e.upper
  pub small : e.upper < top

pub record Roundable (s : Span) : Type 0 where
  pub normal : Normal s
  pub most : s.e ≤ 1024

pub record Rounded (s : Span) (e : Interval ℕ) : Type 0 where
  pub lower : Floor s e.lower
  pub upper : Ceiling s e.upper
