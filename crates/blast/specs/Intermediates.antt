-- What the functions of the crate ask of the intermediate values, and promise each other of them: E, roots, Rx, what a detonation and a deflagration take.
use Rattle.std.specs.Prelude.{ℕ, ◌+◌, ◌*◌, ◌≤◌, ◌<◌, ◌≡◌, true, false, cond, eqb, Option, Some, None}
use Rattle.exact.specs.Fraction.{whole}
use Rattle.exact.specs.Formula.{Formula, ln}
use Rattle.span.specs.declared.Span.{Span}
use Rattle.span.specs.Spans.{Normal, Width}
use Rattle.span.specs.Enclosing.{Encloses}
use Rattle.fixed.specs.declared.Log.{Log}
use Rattle.fixed.specs.Logs.{Narrow, LogEncloses}
use Rattle.enclosure.specs.Promises.{enough}
use Rattle.waves.specs.EndBounds.{LowerAtMost}
use Rattle.waves.specs.Detonation.{Distance}
use Rattle.waves.specs.Gas.{Near}
use Rattle.waves.specs.Deflagration.{Expansion}
use Rattle.guidance.specs.declared.Case.{Case}
use Rattle.guidance.specs.declared.Cloud.{Cloud}
use Rattle.guidance.specs.Clouds.{energy, deflagrates}
use Rattle.guidance.specs.CloudWords.{CloudOf}
use Rattle.guidance.specs.Waves.{number, hundredths, thousandths, gas_impulse, raised, third, two_thirds, reduced_distance, near_field, mach_number, deflagration_distance, in_pascals, in_pascal_seconds}
use Rattle.blast.specs.declared.Detonation.{Detonation}
use Rattle.blast.specs.declared.Detonation.TheVariants as variants
use Rattle.blast.specs.declared.Flame.{Flame}
use Rattle.blast.specs.declared.Common.{Common}
use Rattle.blast.specs.declared.Scale.{Scale}
use Rattle.blast.specs.declared.Wave.{Wave}
use Rattle.blast.specs.Windows.{Window, energy_window, air_power_window, energy_root_window, distance_window, reduced_pressure_window, reduced_impulse_window}
use Rattle.blast.specs.Promises.{Enclosure, Ready, PressureSpan, ImpulseSpan, WaveAround}

-- words that a cloud may have
pub record Worded (k : Cloud) : Type 0 where
  pub joules : 1 ≤ k.joules
  pub parts : 0 < k.parts
  pub parts_most : k.parts ≤ 50000

-- E, of every case whose cloud this is
pub record EnergySpan (k : Cloud) (s : Span) : Type 0 where
  pub energy : (c : Case) → CloudOf c k → Enclosure (number (energy c)) energy_window s

-- Cube roots, of numbers from 2^-33 to 2^68

pub record Rootable (t : Span) : Type 0 where
  pub normal : Normal t
  pub narrow : Width t 32
  pub least : 960 ≤ t.e
  pub most : t.e ≤ 1061

pub record CubeRoot (t r : Span) : Type 0 where
  pub normal : Normal r
  pub encloses : (x : Formula) (n : ℕ) → enough ≤ n → Encloses t x n → Encloses r (raised third x) n
  pub width : (D U : ℕ) → Width t D → D ≤ 32 → D + 18 ≤ 3 * U → Width r (U + 31)
  pub least : 969 ≤ r.e
  pub most : r.e ≤ 1019

-- P0^(2/3), from 1290 to 2310
pub record AirPower (air : ℕ) (r : Span) : Type 0 where
  pub power : Enclosure (raised two_thirds (number (whole air))) air_power_window r
  pub lower : LowerAtMost r 2310 1

-- Rx of an accepted case, in x
pub record Seen (c : Case) (k : Cloud) (air : ℕ) (x : Span) : Type 0 where
  pub ready : Ready c k air
  pub distance : Enclosure (reduced_distance air c) distance_window x

-- What a detonation formula takes, by the case

pub record NearField (air : ℕ) (c : Case) (t : ℕ) : Type 0 where
  pub near : near_field air c ≡ true
  pub state : t ≡ c.state

pub record HeterogeneousAt (air : ℕ) (c : Case) (x : Span) : Type 0 where
  pub away : near_field air c ≡ false
  pub state : c.state ≡ 1
  pub distance : Distance 19 100 x
  pub value : Enclosure (reduced_distance air c) distance_window x

pub record GasAt (air : ℕ) (c : Case) (l : Log) : Type 0 where
  pub away : near_field air c ≡ false
  pub state : c.state ≡ 1 → ⊥
  pub distance : Near l
  pub encloses : (n : ℕ) → enough ≤ n → LogEncloses l (ln (reduced_distance air c)) n
  pub narrow : Narrow l 73

abbrev pub Detonated : (air : ℕ) (c : Case) → Detonation → Type 0
Detonated air c (variants.Near state) = NearField air c state
Detonated air c (variants.Heterogeneous x) = HeterogeneousAt air c x
Detonated air c (variants.Gas l) = GasAt air c l

-- w = V/C0
pub record MachSpan (c : Case) (w : Span) : Type 0 where
  pub normal : Normal w
  pub encloses : (n : ℕ) → enough ≤ n → Encloses w (mach_number c) n
  pub width : Width w 44
  pub least : 986 ≤ w.e
  pub most : LowerAtMost w 3 2

-- R of the deflagration formulas
pub record DeflagrationSpan (air : ℕ) (c : Case) (y : Span) : Type 0 where
  pub encloses : (n : ℕ) → enough ≤ n → Encloses y (deflagration_distance air c) n
  pub width : Width y 55
  pub distance : Distance 33 100 y

-- what the deflagration formulas take
pub record FlameOf (air : ℕ) (c : Case) (f : Flame) : Type 0 where
  pub mach : MachSpan c f.mach
  pub expansion : Expansion c.state f.expansion
  pub distance : DeflagrationSpan air c f.distance

pub record BurningAt (air : ℕ) (c : Case) (f : Flame) : Type 0 where
  pub burns : deflagrates c ≡ true
  pub flame : FlameOf air c f

abbrev pub Deflagrated : (air : ℕ) (c : Case) → Option Flame → Type 0
Deflagrated air c None = deflagrates c ≡ false
Deflagrated air c (Some f) = BurningAt air c f

-- what both figures are worked from
pub record CommonOf (air : ℕ) (c : Case) (s : Common) : Type 0 where
  pub detonation : Detonated air c s.detonation
  pub deflagration : Deflagrated air c s.deflagration

-- Ix of the near field, by the state: 0.16, or that of a gas at 0.142
unfoldable pub near_impulse : ℕ → Formula
near_impulse state = cond (eqb state 1) (number (hundredths 16)) (gas_impulse (number (thousandths 142)))

-- From reduced figures to Pa and Pa·s

-- E^(1/3), from 0.023 to 67,200
pub record EnergyRoot (c : Case) (t : Span) : Type 0 where
  pub root : Enclosure (raised third (number (energy c))) energy_root_window t
  pub lower : LowerAtMost t 67200 1

pub record ScaleOf (air : ℕ) (c : Case) (s : Scale) : Type 0 where
  pub power : AirPower air s.power
  pub root : EnergyRoot c s.root

-- s encloses some value, in the window w
pub record EnclosesSome (w : Window) (s : Span) : Type 0 where
  pub value : Formula
  pub enclosed : Enclosure value w s

-- whatever Px is in px, Px·P0 is in s; whatever Ix is in ix, Ix·P0^(2/3)·E^(1/3)/C0 is in s

pub record Pascals (air : ℕ) (px s : Span) : Type 0 where
  pub value : (x : Formula) → Enclosure x reduced_pressure_window px → PressureSpan (in_pascals air x) s

pub record PascalSeconds (air : ℕ) (c : Case) (ix s : Span) : Type 0 where
  pub value : (x : Formula) → Enclosure x reduced_impulse_window ix → ImpulseSpan (in_pascal_seconds air c x) s

-- both at once
pub record Scaled (air : ℕ) (c : Case) (px ix : Span) (w : Wave) : Type 0 where
  pub wave : (x y : Formula) → Enclosure x reduced_pressure_window px → Enclosure y reduced_impulse_window ix → WaveAround (in_pascals air x) (in_pascal_seconds air c y) w
