-- Lines and frames and their verdicts, by computation: document 01's three lines, the propane line in either letter case and in several airs, and several faults at once.
-- Assumes nothing.
use Rattle.std.specs.Prelude.{ℕ, ◌≡◌, refl, List, [], ◌∷◌, ◌++◌, replicate, Err, Ok}
use Rattle.std.proofs.Math.Decide.{dec_le}
use Rattle.exact.specs.Fraction.{whole, ◌⊗◌, power}
use Rattle.guidance.specs.declared.Case.{Case}
use Rattle.guidance.specs.AirPressure.{standard, in_air}
use Rattle.guidance.specs.Substances.{betas, beta_of, class_of, heat_of}
use Rattle.guidance.specs.Ranges.{ranges, range_at}
use Rattle.guidance.specs.Clouds.{range_of, ground_factor, lean_by, lean_factor, aerosol_factor, energy}
use Rattle.guidance.specs.Distances.{less, metres, cubed, farther, cube24}
use Rattle.refusals.specs.declared.Fault.TheVariants.{Length, Digit, State, Placement, Surroundings, Quantity, Heat}
use Rattle.frame.specs.declared.Refusal.TheVariants.{Faulty}
use Rattle.fields.specs.Bytes.{air_in, fields_of}
use Rattle.hexadecimals.specs.Digits.{digit_of, all_digits, bytes_of}
use Rattle.refusals.specs.Order.{first_of, held}
use Rattle.limits.specs.Tests.{quantity_outside, heat_missing, value_tests, field_tests}
use Rattle.frame.specs.Tests.{frame_tests, line_tests}
use Rattle.frame.specs.Verdicts.{last_tests, frame_verdict, line_verdict}

-- 00000001000000640001000100000000000000640046
abbrev pub third_line : List ℕ
third_line =
    48 ∷ 48 ∷ 48 ∷ 48 ∷ 48 ∷ 48 ∷ 48 ∷ 49 ∷ 48 ∷ 48 ∷ 48
    ∷ 48 ∷ 48 ∷ 48 ∷ 54 ∷ 52 ∷ 48 ∷ 48 ∷ 48 ∷ 49 ∷ 48 ∷ 48
    ∷ 48 ∷ 49 ∷ 48 ∷ 48 ∷ 48 ∷ 48 ∷ 48 ∷ 48 ∷ 48 ∷ 48 ∷ 48
    ∷ 48 ∷ 48 ∷ 48 ∷ 48 ∷ 48 ∷ 54 ∷ 52 ∷ 48 ∷ 48 ∷ 52 ∷ 54 ∷ []

-- the same with a placement of 2
abbrev pub placement_line : List ℕ
placement_line =
    48 ∷ 48 ∷ 48 ∷ 48 ∷ 48 ∷ 50 ∷ 48 ∷ 49 ∷ 48 ∷ 48 ∷ 48
    ∷ 48 ∷ 48 ∷ 48 ∷ 54 ∷ 52 ∷ 48 ∷ 48 ∷ 48 ∷ 49 ∷ 48 ∷ 48
    ∷ 48 ∷ 49 ∷ 48 ∷ 48 ∷ 48 ∷ 48 ∷ 48 ∷ 48 ∷ 48 ∷ 48 ∷ 48
    ∷ 48 ∷ 48 ∷ 48 ∷ 48 ∷ 48 ∷ 54 ∷ 52 ∷ 48 ∷ 48 ∷ 52 ∷ 54 ∷ []

-- 11000104007A1200057803020000B540000027100046
abbrev pub propane_line : List ℕ
propane_line =
    49 ∷ 49 ∷ 48 ∷ 48 ∷ 48 ∷ 49 ∷ 48 ∷ 52 ∷ 48 ∷ 48 ∷ 55
    ∷ 65 ∷ 49 ∷ 50 ∷ 48 ∷ 48 ∷ 48 ∷ 53 ∷ 55 ∷ 56 ∷ 48 ∷ 51
    ∷ 48 ∷ 50 ∷ 48 ∷ 48 ∷ 48 ∷ 48 ∷ 66 ∷ 53 ∷ 52 ∷ 48 ∷ 48
    ∷ 48 ∷ 48 ∷ 48 ∷ 50 ∷ 55 ∷ 49 ∷ 48 ∷ 48 ∷ 48 ∷ 52 ∷ 54 ∷ []

-- the same in small letters
abbrev pub propane_small : List ℕ
propane_small =
    49 ∷ 49 ∷ 48 ∷ 48 ∷ 48 ∷ 49 ∷ 48 ∷ 52 ∷ 48 ∷ 48 ∷ 55
    ∷ 97 ∷ 49 ∷ 50 ∷ 48 ∷ 48 ∷ 48 ∷ 53 ∷ 55 ∷ 56 ∷ 48 ∷ 51
    ∷ 48 ∷ 50 ∷ 48 ∷ 48 ∷ 48 ∷ 48 ∷ 98 ∷ 53 ∷ 52 ∷ 48 ∷ 48
    ∷ 48 ∷ 48 ∷ 48 ∷ 50 ∷ 55 ∷ 49 ∷ 48 ∷ 48 ∷ 48 ∷ 52 ∷ 54 ∷ []

-- its fields
abbrev pub propane : Case
propane =
    record {
      substance = 17;
      state = 0;
      placement = 1;
      surroundings = 4;
      mass = 8000000;
      mean = 1400;
      stoichiometric = 770;
      heat = 46400;
      distance = 10000;
      body = 70;
      air = standard;
    }

-- the line with more characters behind it, and the case in another air
abbrev pub longer : List ℕ → List ℕ
longer more = propane_line ++ more

abbrev pub propane_in : ℕ → Case
propane_in air = in_air propane air

-- three settings, and a distance of 0
abbrev pub settings : (state placement surroundings : ℕ) → List ℕ
settings state placement surroundings =
    0 ∷ state ∷ placement ∷ surroundings ∷ 0 ∷ 0 ∷ 0 ∷ 100 ∷ 0 ∷ 1 ∷ 0
    ∷ 1 ∷ 0 ∷ 0 ∷ 3 ∷ 245 ∷ 0 ∷ 0 ∷ 0 ∷ 0 ∷ 0 ∷ 70 ∷ []

pub record Examples : Type 0 where
  pub empty_line : line_verdict [] 77 ≡ Err (Faulty Length)
  pub letters_G : line_verdict (replicate 44 71) 77 ≡ Err (Faulty Digit)
  pub third_line_lem : line_verdict third_line 77 ≡ Err (Faulty Heat)
  pub propane_line_lem : line_verdict propane_line 77 ≡ Ok propane
  pub propane_small_lem : line_verdict propane_small 77 ≡ Ok propane
  -- 1F40: 80,000 Pa; 2792: 101,300 Pa written out; the ends of the air pressure's values, and past them; 46 characters (request 11)
  pub mountain_line : line_verdict (longer (49 ∷ 70 ∷ 52 ∷ 48 ∷ [])) 77 ≡ Ok (propane_in 8000)
  pub standard_written : line_verdict (longer (50 ∷ 55 ∷ 57 ∷ 50 ∷ [])) 77 ≡ Ok propane
  pub thinnest : line_verdict (longer (49 ∷ 51 ∷ 56 ∷ 56 ∷ [])) 77 ≡ Ok (propane_in 5000)
  pub too_thin : line_verdict (longer (49 ∷ 51 ∷ 56 ∷ 55 ∷ [])) 77 ≡ Err (Faulty Quantity)
  pub densest : line_verdict (longer (50 ∷ 65 ∷ 70 ∷ 56 ∷ [])) 77 ≡ Ok (propane_in 11000)
  pub too_dense : line_verdict (longer (50 ∷ 65 ∷ 70 ∷ 57 ∷ [])) 77 ≡ Err (Faulty Quantity)
  pub characters_46 : line_verdict (longer (49 ∷ 70 ∷ [])) 77 ≡ Err (Faulty Length)
  pub placement_line_lem : line_verdict placement_line 77 ≡ Err (Faulty Placement)
  -- the first wrong byte in the frame's order, then the distance
  pub state_first : frame_verdict (settings 2 2 5) 77 ≡ Err (Faulty State)
  pub placement_next : frame_verdict (settings 1 2 0) 77 ≡ Err (Faulty Placement)
  pub surroundings_last : frame_verdict (settings 1 1 5) 77 ≡ Err (Faulty Surroundings)
  pub quantity_after : frame_verdict (settings 1 1 4) 77 ≡ Err (Faulty Quantity)

pub examples : Examples
unfolding frame_verdict line_verdict first_of held frame_tests line_tests field_tests value_tests last_tests quantity_outside heat_missing air_in fields_of in_air digit_of all_digits bytes_of farther less cubed metres cube24 power whole ◌⊗◌ energy ground_factor lean_factor lean_by dec_le aerosol_factor heat_of betas beta_of range_of range_at ranges class_of
examples =
    record {
      empty_line = refl;
      letters_G = refl;
      third_line_lem = refl;
      propane_line_lem = refl;
      propane_small_lem = refl;
      mountain_line = refl;
      standard_written = refl;
      thinnest = refl;
      too_thin = refl;
      densest = refl;
      too_dense = refl;
      characters_46 = refl;
      placement_line_lem = refl;
      state_first = refl;
      placement_next = refl;
      surroundings_last = refl;
      quantity_after = refl;
    }
