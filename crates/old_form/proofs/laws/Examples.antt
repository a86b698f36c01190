-- Lines of the old form worked by hand: propane's, and its line changed so that one test or two apply. All by computation. Assumes nothing.
use Rattle.std.specs.Prelude.{ℕ, ◌≡◌, refl, List, [], ◌∷◌, ◌++◌, replicate, Err, Ok}
use Rattle.std.specs.Float.Ieee.{of_bits, to_bits, lt, of_int, round}
use Rattle.refusals.specs.declared.Fault.TheVariants.{Length, Digit, Substance, Quantity, Heat}
use Rattle.refusals.specs.Order.{first_of, held}
use Rattle.guidance.specs.Substances.{betas, beta_of}
use Rattle.byte_numbers.specs.Numbers.{one, four, eight}
use Rattle.hexadecimals.specs.Digits.{digit_of, all_digits, bytes_of}
use Rattle.hexadecimals.specs.Written.{upper, digits_of}
use Rattle.fields.specs.Bytes.{air_in, fields_of, settings}
use Rattle.limits.specs.Tests.{quantity_outside, heat_missing, value_tests, field_tests}
use Rattle.frame.specs.Tests.{frame_tests}
use Rattle.frame.specs.laws.Examples.{propane, third_line, longer}
use Rattle.writable.specs.declared.Refusal.TheVariants.{Faulty, Space}
use Rattle.writable.specs.Verdicts.{writable_tests}
use Rattle.doubles.specs.Doubles.{unusable, rounded}
use Rattle.old_case.specs.Cases.{unusable_in, case_of, lost_heat, old_case_of}
use Rattle.old_bytes.specs.Bytes.{field_bytes, old_of, old_bytes, misplaced}
use Rattle.from_old.specs.declared.Refusal.TheVariants.{Unwritten, Tag, Double}
use Rattle.from_old.specs.Tests.{reading_tests, whole_tests, line_tests, line_verdict}
use Rattle.to_old.specs.declared.Refusal.TheVariants as returns
use Rattle.to_old.specs.Tests.{last_tests, frame_verdict}
use Rattle.to_old.specs.Entry.{old_line}

-- 110001040140BF400000000000024061800000000000034053400000000000044047333333333333054059000000000000064051800000000000
abbrev pub propane_line : List ℕ
propane_line =
    49 ∷ 49 ∷ 48 ∷ 48 ∷ 48 ∷ 49 ∷ 48 ∷ 52 ∷ 48 ∷ 49 ∷ 52 ∷ 48 ∷ 66 ∷ 70 ∷ 52 ∷ 48 ∷ 48 ∷ 48 ∷ 48 ∷ 48
    ∷ 48 ∷ 48 ∷ 48 ∷ 48 ∷ 48 ∷ 48 ∷ 48 ∷ 50 ∷ 52 ∷ 48 ∷ 54 ∷ 49 ∷ 56 ∷ 48 ∷ 48 ∷ 48 ∷ 48 ∷ 48 ∷ 48 ∷ 48
    ∷ 48 ∷ 48 ∷ 48 ∷ 48 ∷ 48 ∷ 51 ∷ 52 ∷ 48 ∷ 53 ∷ 51 ∷ 52 ∷ 48 ∷ 48 ∷ 48 ∷ 48 ∷ 48 ∷ 48 ∷ 48 ∷ 48 ∷ 48
    ∷ 48 ∷ 48 ∷ 48 ∷ 52 ∷ 52 ∷ 48 ∷ 52 ∷ 55 ∷ 51 ∷ 51 ∷ 51 ∷ 51 ∷ 51 ∷ 51 ∷ 51 ∷ 51 ∷ 51 ∷ 51 ∷ 51 ∷ 51
    ∷ 48 ∷ 53 ∷ 52 ∷ 48 ∷ 53 ∷ 57 ∷ 48 ∷ 48 ∷ 48 ∷ 48 ∷ 48 ∷ 48 ∷ 48 ∷ 48 ∷ 48 ∷ 48 ∷ 48 ∷ 48 ∷ 48 ∷ 54
    ∷ 52 ∷ 48 ∷ 53 ∷ 49 ∷ 56 ∷ 48 ∷ 48 ∷ 48 ∷ 48 ∷ 48 ∷ 48 ∷ 48 ∷ 48 ∷ 48 ∷ 48 ∷ 48 ∷ []

-- the same with another substance, mass, heat or tag of the distance
abbrev pub changed : (substance mass heat tag : ℕ) → List ℕ
changed substance mass heat tag =
    digits_of
    (settings substance 0 1 4
    ++ (one 1 ++ eight mass)
    ++ (one 2 ++ eight 0x4061_8000_0000_0000)
    ++ (one 3 ++ eight 0x4053_4000_0000_0000)
    ++ (one 4 ++ eight heat)
    ++ (one tag ++ eight 0x4059_0000_0000_0000)
    ++ (one 6 ++ eight 0x4051_8000_0000_0000))

-- 8000 kg, -1 kg; 46.4, 0.0004 and infinitely many MJ/kg
abbrev mass : ℕ
mass = 0x40bf_4000_0000_0000

abbrev below : ℕ
below = 0xbff0_0000_0000_0000

abbrev heat : ℕ
heat = 0x4047_3333_3333_3333

abbrev little : ℕ
little = 0x3f3a_36e2_eb1c_432d

abbrev infinite : ℕ
infinite = 0x7ff0_0000_0000_0000

-- 2792 and 1F40: 101,300 Pa and 80,000 Pa
abbrev standard_digits : List ℕ
standard_digits = 50 ∷ 55 ∷ 57 ∷ 50 ∷ []

abbrev mountain_digits : List ℕ
mountain_digits = 49 ∷ 70 ∷ 52 ∷ 48 ∷ []

pub record Examples : Type 0 where
  pub given_back : old_line propane ≡ propane_line
  pub taken_in : line_verdict propane_line 22 ≡ Ok propane
  pub same_line : changed 17 mass heat 5 ≡ propane_line
  pub no_room : line_verdict propane_line 21 ≡ Err (Unwritten Space)
  pub empty_line : line_verdict [] 22 ≡ Err (Unwritten (Faulty Length))
  pub letters_G : line_verdict (replicate 116 71) 22 ≡ Err (Unwritten (Faulty Digit))
  pub lost_heat_lem : line_verdict (changed 17 mass little 5) 22 ≡ Err (Unwritten (Faulty Quantity))
  pub tag_before_double : line_verdict (changed 17 mass infinite 6) 22 ≡ Err Tag
  pub double_before_substance : line_verdict (changed 76 below heat 5) 22 ≡ Err Double
  pub substance_before_lost_heat : line_verdict (changed 76 mass little 5) 22 ≡ Err (Unwritten (Faulty Substance))
  -- the way back of 24 bytes: 101,300 Pa written out goes, 80,000 Pa is 19, before 8 and after 6
  pub standard_air : frame_verdict (bytes_of (longer standard_digits)) 116 ≡ Ok propane
  pub no_room_back : frame_verdict (bytes_of (longer standard_digits)) 115 ≡ Err returns.Space
  pub air_before_space : frame_verdict (bytes_of (longer mountain_digits)) 0 ≡ Err returns.Air
  pub heat_before_air : frame_verdict (bytes_of (third_line ++ mountain_digits)) 0 ≡ Err (returns.Faulty Heat)

pub examples : Examples
unfolding frame_verdict last_tests frame_tests field_tests air_in fields_of betas beta_of line_verdict line_tests reading_tests whole_tests writable_tests first_of held value_tests quantity_outside heat_missing digit_of all_digits bytes_of upper digits_of settings one four eight field_bytes old_of old_bytes misplaced unusable_in case_of lost_heat old_case_of unusable rounded of_bits to_bits lt of_int round
examples =
    record {
      given_back = refl;
      taken_in = refl;
      same_line = refl;
      no_room = refl;
      empty_line = refl;
      letters_G = refl;
      lost_heat_lem = refl;
      tag_before_double = refl;
      double_before_substance = refl;
      substance_before_lost_heat = refl;
      standard_air = refl;
      no_room_back = refl;
      air_before_space = refl;
      heat_before_air = refl;
    }
