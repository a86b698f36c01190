-- Known spellings, by computation: the example's propane, whose table heat is 46,200 J/g (β = 1.05). Assumes nothing.
use Rattle.std.specs.Prelude.{ℕ, ◌≡◌, refl, List, [], ◌∷◌, Err, Ok}
use Rattle.guidance.specs.declared.Case.{Case}
use Rattle.guidance.specs.AirPressure.{standard, in_air}
use Rattle.guidance.specs.Substances.{betas, beta_of, heat_of}
use Rattle.byte_numbers.specs.Numbers.{one, two, four}
use Rattle.hexadecimals.specs.Digits.{digit_of, all_digits, bytes_of}
use Rattle.hexadecimals.specs.Written.{upper, digits_of}
use Rattle.refusals.specs.declared.Fault.TheVariants.{Substance, Quantity, Heat}
use Rattle.refusals.specs.Order.{first_of, held}
use Rattle.fields.specs.Bytes.{air_in, fields_of, settings, first_bytes, air_bytes, frame_bytes}
use Rattle.limits.specs.Tests.{quantity_outside, heat_missing, value_tests, field_tests}
use Rattle.frame.specs.Tests.{line_tests}
use Rattle.frame.specs.laws.Examples.{propane, propane_line, propane_small, third_line, longer, propane_in}
use Rattle.writable.specs.declared.Refusal.TheVariants.{Faulty, Space}
use Rattle.writable.specs.Verdicts.{writable_tests, writable_verdict}
use Rattle.writing.specs.Spelling.{spelled_heat, as_spelled, spelling}
use Rattle.writing.specs.Entries.{fields_verdict, line_verdict}

-- the example's case with another substance and another heat
abbrev pub heated_by : (substance heat : ℕ) → Case
heated_by substance heat =
    record {
      substance = substance;
      state = 0;
      placement = 1;
      surroundings = 4;
      mass = 8000000;
      mean = 1400;
      stoichiometric = 770;
      heat = heat;
      distance = 10000;
      body = 70;
      air = standard;
    }

-- 11000104007A12000578030200000000000027100046
abbrev pub table_line : List ℕ
table_line =
    49 ∷ 49 ∷ 48 ∷ 48 ∷ 48 ∷ 49 ∷ 48 ∷ 52 ∷ 48 ∷ 48 ∷ 55
    ∷ 65 ∷ 49 ∷ 50 ∷ 48 ∷ 48 ∷ 48 ∷ 53 ∷ 55 ∷ 56 ∷ 48 ∷ 51
    ∷ 48 ∷ 50 ∷ 48 ∷ 48 ∷ 48 ∷ 48 ∷ 48 ∷ 48 ∷ 48 ∷ 48 ∷ 48
    ∷ 48 ∷ 48 ∷ 48 ∷ 50 ∷ 55 ∷ 49 ∷ 48 ∷ 48 ∷ 48 ∷ 52 ∷ 54 ∷ []

pub record Examples : Type 0 where
  -- 46,400 J/g is not the table's: the example is spelled as it is printed, from small letters too
  pub as_printed : spelling propane ≡ propane_line
  pub small_letters : line_verdict propane_small 44 ≡ Ok propane
  -- 2792, 101,300 Pa written out, is not spelled; 1F40, 80,000 Pa, is, in 48 characters (request 11)
  pub standard_written : line_verdict (longer (50 ∷ 55 ∷ 57 ∷ 50 ∷ [])) 44 ≡ Ok propane
  pub mountain_line : spelling (propane_in 8000) ≡ longer (49 ∷ 70 ∷ 52 ∷ 48 ∷ [])
  pub no_room_for_air : line_verdict (longer (49 ∷ 70 ∷ 52 ∷ 48 ∷ [])) 47 ≡ Err Space
  pub no_room_in_22 : fields_verdict (propane_in 8000) 22 ≡ Err Space
  pub too_thin : fields_verdict (propane_in 4999) 0 ≡ Err (Faulty Quantity)
  -- 46,200 J/g is the table's, so it is spelled as no heat
  pub table_given : spelling (heated_by 17 46200) ≡ table_line
  pub table_taken : spelling (heated_by 17 0) ≡ table_line
  -- a substance without β keeps its heat
  pub kept_heat : as_spelled (heated_by 25 46200) ≡ heated_by 25 46200
  -- a number that would fit if it were cut, no heat and no β, and an area a byte too short, which comes last
  pub too_large : fields_verdict (heated_by 273 46400) 21 ≡ Err (Faulty Substance)
  pub too_hot : fields_verdict (heated_by 17 4295013696) 21 ≡ Err (Faulty Quantity)
  pub no_heat : fields_verdict (heated_by 25 0) 21 ≡ Err (Faulty Heat)
  pub no_room : fields_verdict (heated_by 17 0) 21 ≡ Err Space
  pub third_line_lem : line_verdict third_line 43 ≡ Err (Faulty Heat)
  pub no_room_for_line : line_verdict propane_line 43 ≡ Err Space

pub examples : Examples
unfolding writable_verdict writable_tests first_of held line_tests field_tests value_tests quantity_outside heat_missing air_in fields_of in_air first_bytes air_bytes frame_bytes settings one two four digit_of all_digits bytes_of upper digits_of heat_of betas beta_of spelling as_spelled spelled_heat
examples =
    record {
      as_printed = refl;
      small_letters = refl;
      standard_written = refl;
      mountain_line = refl;
      no_room_for_air = refl;
      no_room_in_22 = refl;
      too_thin = refl;
      table_given = refl;
      table_taken = refl;
      kept_heat = refl;
      too_large = refl;
      too_hot = refl;
      no_heat = refl;
      no_room = refl;
      third_line_lem = refl;
      no_room_for_line = refl;
    }
