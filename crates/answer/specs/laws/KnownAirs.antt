-- The starred entries hold in every permitted air. Assumes nothing.
use Rattle.std.specs.Prelude.{ℕ, ◌+◌, ◌*◌, ◌/◌, ◌%◌, ◌≤◌, ◌≡◌, refl, true, false, [], ◌∷◌, ◌++◌, Err, Ok}
use Rattle.std.proofs.Math.Path.{ap}
use Rattle.std.proofs.Common.{◌∙◌, arith}
use Rattle.exact.specs.Fraction.{whole, ◌⊗◌, power}
use Rattle.guidance.specs.declared.Case.{Case}
use Rattle.guidance.specs.AirPressure.{in_air}
use Rattle.guidance.specs.Substances.{betas, beta_of, class_of}
use Rattle.guidance.specs.Ranges.{ranges, range_at}
use Rattle.guidance.specs.Cases.{Fields}
use Rattle.guidance.specs.Clouds.{range_of, ground_factor, lean_factor, aerosol_factor, energy}
use Rattle.guidance.specs.Distances.{less, metres, nearer, farther, cube02, cube24}
use Rattle.guidance.specs.CaseQ.{q_in, EqualToAir}
use Rattle.guidance.proofs.laws.Metres.{nearer_metres, farther_metres}
use Rattle.guidance.proofs.laws.Known as known
use Rattle.refusals.specs.declared.Fault.TheVariants.{Substance, Heat}
use Rattle.refusals.specs.Order.{first_of}
use Rattle.fields.specs.Bytes.{air_in, fields_of, settings, first_bytes, frame_bytes}
use Rattle.byte_numbers.specs.Numbers.{one}
use Rattle.limits.specs.Tests.{quantity_outside, heat_missing, value_tests, field_tests}
use Rattle.limits.specs.Checked.{Checked}
use Rattle.limits.specs.laws.Limits.{not_outside}
use Rattle.frame.specs.declared.Refusal.TheVariants.{Faulty, Beyond}
use Rattle.frame.specs.Tests.{frame_tests}
use Rattle.frame.specs.Verdicts.{last_tests, frame_verdict}
use Rattle.frame.specs.Checks.{judged}
use Rattle.frame.specs.laws.Checks.{frame_either, frame_checked_lem}
use Rattle.frame.specs.laws.Verdicts.{frame_judged, own_judged, own_placed}
use Rattle.answer.specs.KnownCases.{frame_of, q}
use Rattle.answer.specs.KnownAirs.{KnownAir, starred_in, KnownRefusals, KnownAirs}
use Rattle.answer.specs.laws.Known.{gas_around, reduced, heterogeneous_around}

module _ {mass heat air : ℕ} (h : EqualToAir mass heat air) where
  at_20_cm : nearer cube02 (10 * air) (q_in mass heat air 0 20) ≡ false
  unfolding less metres cube02 power whole ◌⊗◌
  at_20_cm = nearer_metres (known.q_energy h 0 20) cube02

  at_2400_cm : farther cube24 (10 * air) (q_in mass heat air 0 2400) ≡ false
  unfolding less metres cube24 power whole ◌⊗◌
  at_2400_cm = farther_metres (known.q_energy h 0 2400) cube24

  at_2401_cm : farther cube24 (10 * air) (q_in mass heat air 0 2401) ≡ true
  unfolding less metres cube24 power whole ◌⊗◌
  at_2401_cm = farther_metres (known.q_energy h 0 2401) cube24

  accepted : frame_verdict (frame_bytes (q_in mass heat air 0 2400)) 77 ≡ Ok (q_in mass heat air 0 2400)
  unfolding last_tests first_of
  accepted = own_placed (known.q_heated h (omega arith) (omega arith) (omega arith)) 77 ∙ simp at_2400_cm

  beyond : frame_verdict (frame_bytes (q_in mass heat air 0 2401)) 77 ≡ Err Beyond
  unfolding last_tests first_of
  beyond = own_placed (known.q_heated h (omega arith) (omega arith) (omega arith)) 77 ∙ simp at_2401_cm

  in_air_lem : KnownAir mass heat air
  unfolding range_of range_at ranges class_of
  in_air_lem =
      let f = known.firsts_in h in
      record {
        q_range = refl;
        q_energy = (known.q_energy h 0 100).same;
        q_20_cm = at_20_cm;
        q_19_cm = known.near_at_19_cm h;
        q_19_cm_pressure = gas_around f (q_in mass heat air 0 19) refl;
        q_2400_cm = accepted;
        q_2401_cm = beyond;
        q_heterogeneous = reduced f (q_in mass heat air 1 100) refl;
        q_heterogeneous_pressure = heterogeneous_around f (q_in mass heat air 1 100) refl;
      }

module _ (air : ℕ) (least : 5000 ≤ air) (most : air ≤ 11000) where
  -- of substance 25 or 47
  no_heat : (substance : ℕ) → substance ≤ 75 → heat_missing (in_air (fields_of (frame_of substance 0 1 0 100)) air) ≡ true
      → frame_verdict (starred_in air substance 1 0) 77 ≡ Err (Faulty Heat)
  unfolding in_air air_in fields_of first_of field_tests value_tests quantity_outside
  no_heat substance s m =
      let fields : Fields (in_air (fields_of (frame_of substance 0 1 0 100)) air) =
      record {
        substance = s;
        state = omega arith;
        placement = omega arith;
        surroundings = omega arith;
        surroundings_most = omega arith;
        mass = omega arith;
        mass_most = omega arith;
        mean = omega arith;
        mean_most = omega arith;
        stoichiometric = omega arith;
        stoichiometric_most = omega arith;
        heat_most = omega arith;
        distance = omega arith;
        distance_most = omega arith;
        body = omega arith;
        body_most = omega arith;
        air = least;
        air_most = most;
      } in
      own_judged fields 77 ∙ simp (not_outside 0 75 substance (omega arith) s, not_outside 5000 11000 air least most, m)

  no_substance : frame_verdict (starred_in air 76 5 1013) 77 ≡ Err (Faulty Substance)
  unfolding in_air air_in fields_of frame_bytes first_bytes settings one first_of field_tests value_tests
  no_substance =
      let c : Case = in_air (fields_of (frame_of 76 0 5 1013 100)) air in
      frame_judged (frame_bytes c) 77 ∙ ap (λ (k : Checked). judged k 77) (frame_checked_lem (frame_bytes c) (frame_either c))

  refusals : KnownRefusals air
  unfolding in_air air_in fields_of heat_missing betas beta_of
  refusals = record { substance_25_heat_0 = no_heat 25 (omega arith) refl; substance_47_heat_0 = no_heat 47 (omega arith) refl; substance_76_surroundings_5 = no_substance }

two_digits : (n : ℕ) → 0 + (256 * (n / 256) + n % 256) ≡ n
two_digits n = omega arith

written_out : (state distance room : ℕ) → frame_verdict (q state distance ++ (0x27 ∷ 0x92 ∷ [])) room ≡ frame_verdict (q state distance) room
unfolding frame_verdict frame_tests air_in fields_of
written_out state distance room = refl

pub known_airs : KnownAirs
unfolding air_in fields_of in_air range_of energy ground_factor lean_factor aerosol_factor
known_airs =
    record {
      in_air_lem = λ mass heat air h. in_air_lem h;
      ten_grams = λ air l m. record { product = omega arith; least = l; most = m };
      hundred_grams = record { product = omega arith; least = omega arith; most = omega arith };
      q_itself = λ state distance. ap (q_in 100 1013 10130 state) (two_digits distance);
      refusals = refusals;
      standard_written = λ state distance. refl;
      standard_verdict = written_out;
      in_any_air = λ c air. (refl, refl);
    }
