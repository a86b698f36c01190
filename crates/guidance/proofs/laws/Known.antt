-- Case Q of document 01 in every air in which its E is P0: the pressures whose exact value is a fraction. Some front speeds, by computation of a bracket; the range
-- of a class in its surroundings. Assumes nothing.
use Rattle.std.specs.Prelude.{ℕ, zero, suc, ◌*◌, ◌≤◌, ◌<◌, ◌≡◌, refl, Bool, ◌&&◌, eqb}
use Rattle.std.proofs.Common.{sym, mul-le-mul, le_refl}
use Rattle.std.proofs.Math.Bool.{true, false, cond}
use Rattle.std.proofs.Math.Logic.Dec
use Rattle.std.proofs.Math.Option.{Option, none, some}
use Rattle.std.proofs.Math.Decide.{dec_le}
use native.Mathlib.Omega.{arith}
use Rattle.exact.specs.Fraction.{Ratio, ◌≈◌, whole, ◌⊕◌, ◌⊖◌, ◌⊗◌, recip, power, sum, of_ratio, zero_f, one_f, magnitude, ◌⊞◌, neg, ◌⊟◌, ◌⊠◌, inverse}
use Rattle.exact.specs.Bracket.{Bracket, over_pairs, quotients, smaller, larger}
use Rattle.exact.specs.Series.{one_over, even, ln_term, gap, ln_tail, series_lower, series_upper, climb, exponent, fraction, argument, third, factorial, exp_term, exp_lower, exp_tail, exp_upper}
use Rattle.exact.specs.LnExp.{ln2_lower, ln2_upper, ln_lower, ln_upper, ln_lower_at, ln_upper_at, exp_upper_of, one_over_of, exp_lower_at, exp_upper_at}
use Rattle.exact.specs.Formula.{Formula, mul, bracket_at, lift, ◌>>◌, quotient_b, ln_b, exp_b}
use Rattle.exact.specs.laws.Pairs.{◌⊆◌}
use Rattle.exact.specs.laws.Containment.{Inside}
use Rattle.exact.proofs.laws.Containment.{inside, inside_true, contains_holds}
use Rattle.exact.specs.laws.Decide.{dec_above0, dec_f, dec_positive, dec_positives}
use Rattle.exact.proofs.laws.Points.{point_inside}
use Rattle.exact.proofs.laws.Replacing.{Within, within_refl, within_trans, mul_within, value_within, product_within, within_inside}
use Rattle.exact.specs.Holding.{Holds}
use Rattle.guidance.specs.declared.Case.{Case}
use Rattle.guidance.specs.Substances.{class_of}
use Rattle.guidance.specs.CloudWords.{Heated}
use Rattle.guidance.specs.CaseQ.{q_in, EqualToAir}
use Rattle.guidance.specs.Ranges.{ranges, range_at}
use Rattle.guidance.specs.Clouds.{over, range_of, ground_factor, lean_by, lean_factor, aerosol_factor, energy}
use Rattle.guidance.specs.Distances.{less, metres, nearer, cube02, cube025}
use Rattle.guidance.specs.Waves.{number, thousandths, reduced_distance, aerosol_pressure, near_field, detonation_pressure, range_end, slow_front, front_speed_of, reduced_pressure, in_pascals, overpressure}
use Rattle.guidance.proofs.laws.Limits.{heat_given}
use Rattle.guidance.proofs.laws.Metres.{EnergyIsAir, nearer_metres, unit_distance, aerosol_within}

-- the point v
abbrev pub point : Ratio → Bracket
point v = record { lo = of_ratio v; hi = of_ratio v }

-- the bracket at N = 1 is that point
pub record FirstIs (x : Formula) (v : Ratio) : Type 0 where
  pub bracket : Bracket
  pub is : bracket_at x 1 ≡ some bracket
  pub within : bracket ⊆ point v

first : (x : Formula) (v : Ratio) → Inside (bracket_at x 1) (some (point v)) → FirstIs x v
first x v i = go (bracket_at x 1) refl i
  where
    go : (o : Option Bracket) → bracket_at x 1 ≡ o → Inside o (some (point v)) → FirstIs x v
    go none e i = absurd i
    go (some B) e i = record { bracket = B; is = e; within = i }

-- so the point holds the exact value
pub point_holds : {x : Formula} {v : Ratio} → FirstIs x v → Holds (point v) x
point_holds {x} {v} f = contains_holds x 1 (omega arith) (point v) (rw f.is f.within)

record Computed : Type 0 where
  -- 0.285 at 1 m
  metre : inside (bracket_at (aerosol_pressure (unit_distance (q_in 1 1 1 1 100))) 1) (point (thousandths 285)) ≡ true
  -- V of 500 t is the point 200, in range 5 by the third bracket and in range 6 by the fifth; V of 64 kg lies within 1 of 43·2 and of 26·2
  tonnes_5 : inside (bracket_at (front_speed_of 5 500000000) 3) (point (whole 200)) ≡ true
  tonnes_6 : inside (bracket_at (front_speed_of 6 500000000) 5) (point (whole 200)) ≡ true
  kilograms_5 : inside (bracket_at (front_speed_of 5 64000) 4) (record { lo = of_ratio (whole 85); hi = of_ratio (whole 87) }) ≡ true
  kilograms_6 : inside (bracket_at (front_speed_of 6 64000) 4) (record { lo = of_ratio (whole 51); hi = of_ratio (whole 53) }) ≡ true

computed : Computed
unfolding aerosol_pressure unit_distance front_speed_of slow_front range_end metres inside bracket_at lift ◌>>◌ quotient_b ln_b exp_b over_pairs quotients smaller larger dec_f dec_positive dec_positives Dec.and dec_above0 dec_le ln_lower_at ln_upper_at ln_lower ln_upper ln2_lower ln2_upper exponent climb fraction argument third series_lower series_upper ln_term ln_tail gap one_over even exp_lower_at exp_upper_at exp_upper_of one_over_of exp_lower exp_upper exp_term exp_tail factorial power sum recip whole ◌⊕◌ ◌⊗◌ ◌⊖◌ of_ratio zero_f one_f magnitude ◌⊞◌ neg ◌⊟◌ ◌⊠◌ inverse
computed = record { metre = refl; tonnes_5 = refl; tonnes_6 = refl; kilograms_5 = refl; kilograms_6 = refl }

-- the pressures of Q where E is P0: 18·P0 at 19 cm; 0.285 and 0.285·P0 of the heterogeneous one at 100 cm
pub record FirstsIn (mass heat air : ℕ) : Type 0 where
  pub gas : FirstIs (overpressure (10 * air) (q_in mass heat air 0 19)) (whole (180 * air))
  pub reduced : FirstIs (reduced_pressure (10 * air) (q_in mass heat air 1 100)) (thousandths 285)
  pub heterogeneous : FirstIs (overpressure (10 * air) (q_in mass heat air 1 100)) (thousandths (2850 * air))

module _ {mass heat air : ℕ} (h : EqualToAir mass heat air) where
  above_0 : (m n : ℕ) → m * n ≡ 10 * air → 0 < n
  above_0 m zero e = absurd (omega (arith, h.least))
  above_0 m (suc n) e = omega arith

  some_heat : 0 < heat
  some_heat = above_0 mass heat h.product

  some_mass : 0 < mass
  some_mass = above_0 heat mass (omega (arith, h.product))

  pub q_heated : {state distance : ℕ} → state ≤ 1 → 1 ≤ distance → distance ≤ 1000000 → Heated (q_in mass heat air state distance)
  q_heated {state} {distance} s d m =
      record {
        fields = record {
          substance = omega arith;
          state = s;
          placement = omega arith;
          surroundings = omega arith;
          surroundings_most = omega arith;
          mass = some_mass;
          mass_most = omega (arith, h.product, h.most, mul-le-mul (le_refl mass) some_heat);
          mean = omega arith;
          mean_most = omega arith;
          stoichiometric = omega arith;
          stoichiometric_most = omega arith;
          heat_most = omega (arith, h.product, h.most, mul-le-mul some_mass (le_refl heat));
          distance = d;
          distance_most = m;
          body = omega arith;
          body_most = omega arith;
          air = h.least;
          air_most = h.most;
        };
        heat = rw (sym (heat_given 0 heat some_heat)) some_heat;
      }

  pub q_energy : (state distance : ℕ) → EnergyIsAir (10 * air) (q_in mass heat air state distance)
  unfolding energy ground_factor lean_factor lean_by dec_le aerosol_factor range_of range_at ranges class_of whole ◌⊗◌
  q_energy state distance = record { above = record { above = omega (arith, h.least) }; same = rw (sym (heat_given 0 heat some_heat)) (go (eqb state 1)) }
    where
      go : (b : Bool) → whole (mass * heat) ⊗ whole 1 ⊗ whole 1 ⊗ cond (b && false) (over 3 4 (omega arith)) (whole 1) ≈ whole (10 * air)
      go true = record { cross = omega (arith, h.product) }
      go false = record { cross = omega (arith, h.product) }

  pub near_at_19_cm : nearer cube02 (10 * air) (q_in mass heat air 0 19) ≡ true
  unfolding less metres cube02 power whole ◌⊗◌
  near_at_19_cm = nearer_metres (q_energy 0 19) cube02

  not_near_at_1_m : nearer cube025 (10 * air) (q_in mass heat air 1 100) ≡ false
  unfolding less metres cube025 power whole ◌⊗◌
  not_near_at_1_m = nearer_metres (q_energy 1 100) cube025

  gas_is : overpressure (10 * air) (q_in mass heat air 0 19) ≡ mul (number (whole 18)) (number (whole (10 * air)))
  unfolding overpressure in_pascals reduced_pressure detonation_pressure near_field range_of range_at ranges class_of
  gas_is = simp near_at_19_cm

  heterogeneous_is : reduced_pressure (10 * air) (q_in mass heat air 1 100) ≡ aerosol_pressure (reduced_distance (10 * air) (q_in mass heat air 1 100))
  unfolding reduced_pressure detonation_pressure near_field range_of range_at ranges class_of
  heterogeneous_is = simp not_near_at_1_m

  one_metre : Inside (bracket_at (aerosol_pressure (unit_distance (q_in mass heat air 1 100))) 1) (some (point (thousandths 285)))
  unfolding unit_distance metres
  one_metre = inside_true _ _ computed.metre

  reduced_inside : Inside (bracket_at (reduced_pressure (10 * air) (q_in mass heat air 1 100)) 1) (some (point (thousandths 285)))
  reduced_inside = rw heterogeneous_is (within_inside _ (aerosol_within (q_energy 1 100) 0) one_metre)

  gas_within : Within (mul (number (whole 18)) (number (whole (10 * air)))) (number (whole (180 * air))) 1
  unfolding whole ◌⊗◌
  gas_within = within_trans (product_within (whole 18) (whole (10 * air)) 1) (value_within (record { cross = omega arith }) 1)

  heterogeneous_within : Within (overpressure (10 * air) (q_in mass heat air 1 100)) (number (thousandths (2850 * air))) 1
  unfolding overpressure in_pascals bracket_at whole ◌⊗◌
  heterogeneous_within =
      within_trans (mul_within (record { inside = reduced_inside }) (within_refl (number (whole (10 * air))) 1))
      (within_trans (product_within (thousandths 285) (whole (10 * air)) 1) (value_within (record { cross = omega arith }) 1))

  pub firsts_in : FirstsIn mass heat air
  firsts_in =
      record {
        gas = first _ _ (rw gas_is (within_inside _ gas_within (point_inside _ 1)));
        reduced = first _ _ reduced_inside;
        heterogeneous = first _ _ (within_inside _ heterogeneous_within (point_inside _ 1));
      }

-- the range of every case of a class in some surroundings
pub range_of_lem : (c : Case) {class surroundings : ℕ} → class_of c.substance ≡ class → c.surroundings ≡ surroundings → range_of c ≡ range_at class surroundings
unfolding range_of
range_of_lem c e f = rw (e, f) refl
