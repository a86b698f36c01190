-- A case and its spelling have the same range and the same seven values, formula for formula, and are beyond together. Assumes nothing.
use Rattle.std.specs.Prelude.{ℕ, ◌*◌, ◌≡◌}
use Rattle.std.proofs.Math.Path.{refl}
use Rattle.exact.specs.Fraction.{whole, ◌⊗◌}
use Rattle.guidance.specs.declared.Case.{Case}
use Rattle.guidance.specs.AirPressure.{air_of}
use Rattle.guidance.specs.Clouds.{range_of, ground_factor, lean_factor, aerosol_factor, energy}
use Rattle.guidance.specs.Distances.{metres, cubed, nearer, farther, cube24}
use Rattle.guidance.specs.Waves.{reduced_distance, near_field, detonation_pressure, detonation_impulse, front_speed, mach_number, expansion, deflagration_distance, deflagration_pressure, deflagration_impulse, reduced_pressure, reduced_impulse, in_pascal_seconds, overpressure, impulse}
use Rattle.guidance.specs.Probits.{probit1_at, probit2_at, probit3_at, probit4_at, probit5_at, probit1, probit2, probit3, probit4, probit5}
use Rattle.writing.specs.Spelling.{as_spelled}
use Rattle.writing.specs.SameValues.{SameValues}
use Rattle.writing.specs.laws.Heats.{keeps_heat}

pub spelled_energy : (c : Case) → energy (as_spelled c) ≡ energy c
unfolding as_spelled energy ground_factor lean_factor aerosol_factor range_of
spelled_energy c = λ k. whole (c.mass * keeps_heat c.substance c.heat k) ⊗ ground_factor c ⊗ lean_factor c ⊗ aerosol_factor c

module _ (air : ℕ) (c : Case) where
  same_beyond : farther cube24 air (as_spelled c) ≡ farther cube24 air c
  unfolding as_spelled farther cubed metres
  same_beyond = rw (spelled_energy c) refl

  same_overpressure : overpressure air (as_spelled c) ≡ overpressure air c
  unfolding as_spelled overpressure reduced_pressure deflagration_pressure detonation_pressure near_field nearer cubed metres deflagration_distance reduced_distance mach_number front_speed expansion range_of
  same_overpressure = rw (spelled_energy c) refl

  same_impulse : impulse air (as_spelled c) ≡ impulse air c
  unfolding as_spelled impulse in_pascal_seconds reduced_impulse deflagration_impulse detonation_impulse near_field nearer cubed metres deflagration_distance reduced_distance mach_number front_speed expansion range_of
  same_impulse = rw (spelled_energy c) refl

pub same_values : (c : Case) → SameValues (as_spelled c) c
unfolding as_spelled range_of probit1 probit2 probit3 probit4 probit5
same_values c =
    let air = air_of c in
    record {
      range = refl;
      beyond = same_beyond air c;
      overpressure = same_overpressure air c;
      impulse = same_impulse air c;
      probit1 = λ k. probit1_at (same_overpressure air c k) (same_impulse air c k);
      probit2 = λ k. probit2_at (same_overpressure air c k) (same_impulse air c k);
      probit3 = λ k. probit3_at air c.body (same_overpressure air c k) (same_impulse air c k);
      probit4 = λ k. probit4_at (same_overpressure air c k);
      probit5 = λ k. probit5_at (same_overpressure air c k) (same_impulse air c k);
    }
