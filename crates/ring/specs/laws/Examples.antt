-- Which test refuses a ring, and the farthest distance of case Q, by computation. Assumes nothing.
use Rattle.std.specs.Prelude.{ℕ, ◌≡◌, refl, true, false, List, [], ◌∷◌, ◌++◌}
use Rattle.std.proofs.Common.{sym, arith}
use Rattle.std.proofs.Math.Option.{none, some}
use Rattle.std.proofs.Math.Decide.{dec_le}
use Rattle.exact.specs.Fraction.{whole, ◌⊗◌, power}
use Rattle.guidance.specs.Substances.{betas, beta_of, class_of, heat_of}
use Rattle.guidance.specs.Ranges.{ranges, range_at}
use Rattle.guidance.specs.Clouds.{range_of, ground_factor, lean_by, lean_factor, aerosol_factor, energy}
use Rattle.guidance.specs.Distances.{less, metres, cubed, farther, cube24}
use Rattle.guidance.specs.AirPressure.{air_of}
use Rattle.refusals.specs.declared.Fault.TheVariants.{Surroundings}
use Rattle.refusals.specs.Order.{first_of, held}
use Rattle.fields.specs.Bytes.{air_in, fields_of}
use Rattle.limits.specs.Tests.{quantity_outside, heat_missing, value_tests, field_tests}
use Rattle.frame.specs.Tests.{frame_tests}
use Rattle.frame.specs.laws.Examples.{settings}
use Rattle.answer.specs.KnownCases.{q, propane}
use Rattle.receptor.specs.Receptor.{moved, farthest}
use Rattle.receptor.specs.laws.Moved.{beyond_farther}
use Rattle.receptor.specs.laws.Reach.{last_is}
use Rattle.ring.specs.declared.Refusal.TheVariants.{Faulty, Threshold}
use Rattle.ring.specs.Ring.{last_tests, tests}

-- 8,000 units of 10 Pa
abbrev in_air80000 : List ℕ → List ℕ
in_air80000 frame = frame ++ (0x1F ∷ 0x40 ∷ [])

pub record Examples : Type 0 where
  pub threshold_0 : first_of (tests (frame_tests propane) (air_of (fields_of propane)) 0) ≡ some Threshold
  pub threshold_1 : first_of (tests (frame_tests propane) (air_of (fields_of propane)) 1) ≡ none
  pub greatest_threshold : first_of (tests (frame_tests propane) (air_of (fields_of propane)) 1823400) ≡ none
  pub past_the_greatest : first_of (tests (frame_tests propane) (air_of (fields_of propane)) 1823401) ≡ some Threshold
  -- propane in 80,000 Pa, by a frame of 24 bytes: the limit is 18 times that (request 11)
  pub greatest_in_80000 : first_of (tests (frame_tests (in_air80000 propane)) (air_of (fields_of (in_air80000 propane))) 1440000) ≡ none
  pub past_it_in_80000 : first_of (tests (frame_tests (in_air80000 propane)) (air_of (fields_of (in_air80000 propane))) 1440001) ≡ some Threshold
  pub surroundings_first : first_of (tests (frame_tests (settings 0 0 5)) (air_of (fields_of (settings 0 0 5))) 0) ≡ some (Faulty Surroundings)
  -- at 2401 cm Q is beyond, and its rings are asked for all the same
  pub own_distance_beyond : first_of (tests (frame_tests (q 0 2401)) (air_of (fields_of (q 0 2401))) 5000) ≡ none
  pub q_farthest : farthest (air_of (fields_of (q 0 2401))) (fields_of (q 0 2401)) ≡ 2400

within : farther cube24 101300 (moved (fields_of (q 0 2401)) 2400) ≡ false
unfolding air_in fields_of moved farther less cubed metres cube24 power whole ◌⊗◌ energy ground_factor lean_factor lean_by dec_le aerosol_factor heat_of betas beta_of range_of range_at ranges class_of
within = refl

beyond : farther cube24 101300 (moved (fields_of (q 0 2401)) 2401) ≡ true
unfolding air_in fields_of moved farther less cubed metres cube24 power whole ◌⊗◌ energy ground_factor lean_factor lean_by dec_le aerosol_factor heat_of betas beta_of range_of range_at ranges class_of
beyond = refl

pub examples : Examples
unfolding tests last_tests first_of held frame_tests field_tests value_tests quantity_outside heat_missing air_in fields_of betas beta_of
examples =
    record {
      threshold_0 = refl;
      threshold_1 = refl;
      greatest_threshold = refl;
      past_the_greatest = refl;
      greatest_in_80000 = refl;
      past_it_in_80000 = refl;
      surroundings_first = refl;
      own_distance_beyond = refl;
      q_farthest = sym (last_is 101300 _ 1000000 2400 (omega arith) within (λ e f g. beyond_farther _ 101300 f beyond));
    }
