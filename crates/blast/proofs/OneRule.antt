-- The reduced figures of one rule, as the scaling takes them. Assumes nothing.
use Prim.Native.Nat.{ℕ}
use native.Mathlib.Omega.{arith}
use Rattle.exact.specs.Formula.{Formula}
use Rattle.span.specs.declared.Span.{Span}
use Rattle.guidance.specs.declared.Case.{Case}
use Rattle.guidance.specs.Waves.{deflagration_pressure, deflagration_impulse}
use Rattle.waves.specs.Deflagration.{DeflagrationPressure, DeflagrationImpulse}
use Rattle.blast.specs.declared.Flame.{Flame}
use Rattle.blast.specs.Windows.{Window, detonation_pressure_window, detonation_impulse_window, reduced_pressure_window, reduced_impulse_window}
use Rattle.blast.specs.Promises.{Enclosure}
use Rattle.blast.specs.Intermediates.{FlameOf, EnclosesSome}
use Rattle.blast.proofs.Choices.{looser}
use Rattle.blast.proofs.Deflagrations.{deflagration_pressure_lem, deflagration_impulse_lem}

pub some : {x : Formula} {w : Window} {s : Span} → Enclosure x w s → EnclosesSome w s
some {x} e = record { value = x; enclosed = e }

-- by deflagration

module _ {air : ℕ} {c : Case} {f : Flame} {r : Span} (h : FlameOf air c f) where
  pub deflagrated_pressure : DeflagrationPressure f.mach f.expansion f.distance r → Enclosure (deflagration_pressure air c) reduced_pressure_window r
  deflagrated_pressure p = looser (omega arith) (deflagration_pressure_lem h p)

  pub deflagrated_impulse : DeflagrationImpulse f.mach f.expansion f.distance r → Enclosure (deflagration_impulse air c) reduced_impulse_window r
  deflagrated_impulse p = looser (omega arith) (deflagration_impulse_lem h p)

-- by detonation

module _ {x : Formula} {r : Span} where
  pub detonated_pressure : Enclosure x detonation_pressure_window r → Enclosure x reduced_pressure_window r
  detonated_pressure e = looser (omega arith) e

  pub detonated_impulse : Enclosure x detonation_impulse_window r → Enclosure x reduced_impulse_window r
  detonated_impulse e = looser (omega arith) e
