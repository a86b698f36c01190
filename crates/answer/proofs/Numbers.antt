-- The numbers of an answer, from what the wave and the probits promise. Assumes nothing.
use Rattle.std.specs.Prelude.{ℕ, ℤ}
use native.Mathlib.Nat.{le_refl}
use native.Mathlib.Omega.{arith}
use Rattle.span.specs.Enclosing.{Encloses}
use Rattle.enclosure.specs.Promises.{enough}
use Rattle.guidance.specs.declared.Case.{Case}
use Rattle.guidance.specs.declared.Cloud.{Cloud}
use Rattle.guidance.specs.Cases.{Accepted}
use Rattle.guidance.specs.CloudWords.{CloudOf}
use Rattle.guidance.specs.AirPressure.{air_of}
use Rattle.guidance.specs.Waves.{overpressure, impulse}
use Rattle.guidance.specs.Probits.{probit1, probit2, probit3, probit4, probit5}
use Rattle.guidance.proofs.laws.Limits.{range_most}
use Rattle.layout.specs.declared.Five.{Five}
use Rattle.layout.specs.declared.Interval.{Interval}
use Rattle.blast.specs.declared.Wave.{Wave}
use Rattle.blast.specs.Promises.{WaveOf, Rounded}
use Rattle.blast.proofs.Ending.{pressure_ended, impulse_ended}
use Rattle.probits.specs.Promises.{AllProbits}
use Rattle.answer.specs.Entering.{FiguresOf}
use Rattle.blast.proofs.Ending.{wave_ends}
use Rattle.answer.proofs.Exactness.{probit_ends}

module _ {c : Case} {k : Cloud} {w : Wave} (a : Accepted (air_of c) c) (q : CloudOf c k) (v : WaveOf (air_of c) c w) where
  pressure_encloses : Encloses w.pressure (overpressure (air_of c) c) enough
  pressure_encloses = v.pressure.value.encloses enough (le_refl enough)

  impulse_encloses : Encloses w.impulse (impulse (air_of c) c) enough
  impulse_encloses = v.impulse.value.encloses enough (le_refl enough)

  pub figures : {p i : Interval ℕ} {r : Five (Interval ℤ)} → Rounded w.pressure p → Rounded w.impulse i
      → AllProbits w.pressure w.impulse (air_of c) c.body r
      → FiguresOf c (record { range = k.range; pressure = p; impulse = i; probits = r })
  unfolding probit1 probit2 probit3 probit4 probit5
  figures f g h =
      record {
        range = q.range;
        small = omega (arith, q.range, range_most c a.fields);
        pressure_ends = wave_ends (pressure_ended v.pressure f);
        impulse_ends = wave_ends (impulse_ended v.impulse g);
        first = probit_ends _ (h.first.holds _ _ enough (le_refl enough) pressure_encloses impulse_encloses) h.first.closed;
        second = probit_ends _ (h.second.holds _ _ enough (le_refl enough) pressure_encloses impulse_encloses) h.second.closed;
        third = probit_ends _ (h.third.holds _ _ enough (le_refl enough) pressure_encloses impulse_encloses) h.third.closed;
        fourth = probit_ends _ (h.fourth.holds _ enough (le_refl enough) pressure_encloses) h.fourth.closed;
        fifth = probit_ends _ (h.fifth.holds _ _ enough (le_refl enough) pressure_encloses impulse_encloses) h.fifth.closed;
      }
