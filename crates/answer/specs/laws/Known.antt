-- The table of starred cases holds, by computation. Assumes nothing.
use Rattle.std.specs.Prelude.{ℕ, ◌*◌, ◌≤◌, ◌≡◌, refl, List, pos}
use Rattle.std.proofs.Common.{sym}
use Rattle.std.proofs.Math.Path.{subst}
use Rattle.std.proofs.Math.Decide.{dec_le}
use native.Mathlib.Omega.{arith}
use Rattle.exact.specs.Fraction.{Ratio, whole, ◌⊗◌, power, of_ratio, ◌⊠◌}
use Rattle.exact.specs.Formula.{Formula}
use Rattle.exact.proofs.laws.Frac.{⊑_trans}
use Rattle.guidance.specs.declared.Case.{Case}
use Rattle.guidance.specs.AirPressure.{air_of}
use Rattle.guidance.specs.Substances.{betas, beta_of, class_of, heat_of}
use Rattle.guidance.specs.Ranges.{ranges, range_at}
use Rattle.guidance.specs.Clouds.{range_of, ground_factor, lean_by, lean_factor, aerosol_factor, energy}
use Rattle.guidance.specs.Distances.{less, metres, cubed, nearer, farther, cube02, cube24}
use Rattle.guidance.specs.Waves.{reduced_pressure, overpressure}
use Rattle.guidance.specs.CaseQ.{q_in}
use Rattle.guidance.proofs.laws.Known.{FirstIs, point_holds, FirstsIn, firsts_in, range_of_lem}
use Rattle.refusals.specs.Order.{first_of, held}
use Rattle.fields.specs.Bytes.{air_in, fields_of}
use Rattle.limits.specs.Tests.{quantity_outside, heat_missing, value_tests, field_tests}
use Rattle.frame.specs.Tests.{frame_tests}
use Rattle.frame.specs.Verdicts.{last_tests, frame_verdict}
use Rattle.frame.specs.laws.Verdicts.{heat_given}
use Rattle.exact.specs.Between.{whole_z, times, ExactBetween}
use Rattle.exact.proofs.laws.Between.{times_mono, between}
use Rattle.answer.specs.Answer.{Answer}
use Rattle.answer.specs.KnownCases.{q, KnownCases}

-- whole numbers around a value that is the fraction v
around : {x : Formula} {v : Ratio} {l u : ℕ} → FirstIs x v → ExactBetween 1 x (pos l) (pos u) → (l * v.den ≤ v.num) × (v.num ≤ u * v.den)
unfolding times whole_z of_ratio ◌⊠◌
around f b =
    let m = b.meets 1 (omega arith) f.bracket f.is in
    let low = ⊑_trans m.first (times_mono 1 f.within.below) in
    let high = ⊑_trans (times_mono 1 f.within.above) m.second in
    (omega (arith, low.cross), omega (arith, high.cross))

-- of Q as a frame has it, c
module _ {mass heat air : ℕ} (f : FirstsIn mass heat air) (c : Case) where
  pub gas_around : c ≡ q_in mass heat air 0 19 → (bytes : List ℕ) (a : Answer c bytes) → (a.pascals.lower ≤ 180 * air) × (180 * air ≤ a.pascals.upper)
  unfolding whole
  gas_around e bytes a =
      let v = subst (λ (k : Case). ExactBetween 1 (overpressure (air_of k) k) (pos a.pascals.lower) (pos a.pascals.upper)) e a.pressure_ends.value in
      let r = around f.gas v in
      (omega (arith, r.0), omega (arith, r.1))

  pub reduced : c ≡ q_in mass heat air 1 100 → ExactBetween 1000 (reduced_pressure (10 * air) c) (pos 285) (pos 285)
  unfolding whole_z of_ratio ◌⊠◌
  reduced e =
      subst (λ (k : Case). ExactBetween 1000 (reduced_pressure (10 * air) k) (pos 285) (pos 285)) (sym e)
      (between 1000 (point_holds f.reduced) (record { cross = omega arith }) (record { cross = omega arith }))

  pub heterogeneous_around : c ≡ q_in mass heat air 1 100 → (bytes : List ℕ) (a : Answer c bytes) → (1000 * a.pascals.lower ≤ 2850 * air) × (2850 * air ≤ 1000 * a.pascals.upper)
  heterogeneous_around e bytes a =
      let v = subst (λ (k : Case). ExactBetween 1 (overpressure (air_of k) k) (pos a.pascals.lower) (pos a.pascals.upper)) e a.pressure_ends.value in
      let r = around f.heterogeneous v in
      (omega (arith, r.0), omega (arith, r.1))

in_standard : FirstsIn 100 1013 10130
in_standard = firsts_in (record { product = omega arith; least = omega arith; most = omega arith })

pub known : KnownCases
unfolding air_in fields_of nearer farther less cubed metres cube02 cube24 power whole ◌⊗◌ energy ground_factor lean_factor lean_by dec_le aerosol_factor heat_of betas beta_of range_of range_at ranges class_of frame_verdict first_of held frame_tests field_tests value_tests last_tests quantity_outside heat_missing
known =
    record {
      q_range = refl;
      q_energy = record { cross = refl };
      q_20_cm = refl;
      q_19_cm = refl;
      q_19_cm_pressure = gas_around in_standard (fields_of (q 0 19)) refl;
      q_2400_cm = refl;
      q_2401_cm = refl;
      q_heterogeneous = reduced in_standard (fields_of (q 1 100)) refl;
      q_heterogeneous_pressure = λ bytes a. let r = heterogeneous_around in_standard (fields_of (q 1 100)) refl bytes a in (omega (arith, r.0), omega (arith, r.1));
      class_1_in_1 = λ c e f. range_of_lem c e f;
      class_1_in_2 = λ c e f. range_of_lem c e f;
      class_4_in_4 = λ c e f. range_of_lem c e f;
      substance_25_heat_0 = refl;
      substance_47_heat_0 = refl;
      heat_1 = λ frame room e. heat_given frame room (omega arith);
      substance_76_surroundings_5 = refl;
      propane_energy = record { cross = refl };
      propane_range = refl;
    }
