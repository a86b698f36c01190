-- What holds of the two ways together. Assumes nothing.
use Rattle.std.specs.Prelude.{ℕ, ◌≤◌, ◌≡◌, true, List, ◌++◌, length, take, Ok}
use Rattle.std.proofs.Common.{sym, ap, ◌∙◌, arith}
use Rattle.std.proofs.Math.Path.{subst}
use Rattle.std.proofs.Math.Option.{none}
use Rattle.guidance.specs.declared.Case.{Case}
use Rattle.guidance.specs.AirPressure.{standard}
use Rattle.guidance.specs.Cases.{Fields}
use Rattle.refusals.specs.Order.{first_of}
use Rattle.hexadecimals.specs.Digits.{bytes_of}
use Rattle.hexadecimals.specs.Written.{digits_of, upper_case}
use Rattle.hexadecimals.specs.laws.Spelling.{length_bytes_of}
use Rattle.hexadecimals.specs.laws.Writing.{length_digits}
use Rattle.hexadecimals.specs.laws.Written.{bytes_of_digits, all_digits_lem, upper_digits, digits_of_bytes, spelled_bytes}
use Rattle.fields.specs.Bytes.{fields_of, frame_bytes}
use Rattle.fields.specs.laws.Back.{standard_length, standard_in, air_of_fields, frame_bytes_lem, frame_again, shorter_again, fields_again}
use Rattle.limits.specs.Tests.{value_tests, heat_tests, field_tests}
use Rattle.limits.specs.laws.Checks.{none_lost, heat_clear, heated_by_lem}
use Rattle.frame.specs.laws.Checks.{frame_case, frame_passes, frame_clear}
use Rattle.old_case.specs.declared.OldCase.{OldCase}
use Rattle.old_case.specs.Cases.{unusable_in, case_of, lost_heat, old_case_of}
use Rattle.old_bytes.specs.Bytes.{old_of, old_bytes, misplaced}
use Rattle.old_case.specs.Exactly.{AllExactly}
use Rattle.old_case.specs.laws.Fractions.{all_usable}
use Rattle.old_bytes.specs.laws.Back.{old_length, old_bytes_lem, old_again, tags_in_place, bytes_again, bytes_fit}
use Rattle.old_case.specs.laws.Trip.{in_standard, fitting, case_again, heat_kept, all_exactly, old_kept}
use Rattle.from_old.specs.Verdict.{Verdict}
use Rattle.from_old.specs.Tests.{whole_tests, line_verdict}
use Rattle.to_old.specs.laws.Verdicts.{frame_accepts, frame_refuses}
use Rattle.to_old.specs.Entry.{old_line}
use Rattle.old_form.specs.RoundTrip.{Sound, RoundTrip}
use Rattle.from_old.specs.laws.Readings.{Read}
use Rattle.from_old.specs.laws.Verdicts.{LineTaken, line_accepted, line_accepts}

-- a case with its fields in their values: its line is read as its old case
module _ (c : Case) (f : Fields c) where
  abbrev o : OldCase
  o = old_case_of c

  line_length : length (old_line c) ≡ 116
  line_length = omega (arith, length_digits (old_bytes o), old_length o)

  line_bytes : bytes_of (old_line c) ≡ old_bytes o
  line_bytes = bytes_of_digits (old_bytes o) (old_bytes_lem o)

  read_again : old_of (old_bytes o) ≡ o
  read_again = old_again o (fitting c f)

  line_holds : old_of (bytes_of (old_line c)) ≡ o
  line_holds = ap old_of line_bytes ∙ read_again

  line_reads : Read (old_line c)
  line_reads =
      record {
        size = line_length;
        digits = all_digits_lem (old_bytes o) (old_bytes_lem o);
        tags = ap misplaced line_bytes ∙ tags_in_place o;
        usable = ap unusable_in line_holds ∙ all_usable c f;
      }

  -- and accepted, if the case passes tests 3 to 6 and is in the standard air
  module _ (a : c.air ≡ standard) (h : first_of (field_tests c) ≡ none) where
    again : case_of o ≡ c
    again = case_again c f a

    wholes_sound : first_of (whole_tests o) ≡ none
    unfolding whole_tests
    wholes_sound = (λ k. first_of (value_tests (again k) ++ heat_tests (heat_kept c f k) (again k))) ∙ none_lost c ∙ h

    accepted_again : (room : ℕ) → 22 ≤ room → line_verdict (old_line c) room ≡ Ok c
    accepted_again room r =
        line_accepts (old_line c) room line_reads (ap (λ (k : OldCase). first_of (whole_tests k)) line_holds ∙ wholes_sound) r
        ∙ ap {B = Verdict} Ok (ap case_of line_holds ∙ again)

-- a frame of bytes that passes tests 1 to 6
module _ (frame : List ℕ) (s : Sound frame) where
  good : Fields (fields_of frame)
  good = (frame_clear frame s.passes).1.fields

  comes : (room : ℕ) → (fields_of frame).air ≡ standard → 22 ≤ room → line_verdict (old_line (fields_of frame)) room ≡ Ok (fields_of frame)
  comes room a r = accepted_again (fields_of frame) good a (sym (frame_case frame (frame_clear frame s.passes).0) ∙ s.passes) room r

  unchanged : length frame ≡ 22 → ((fields_of frame).air ≡ standard) × (frame_bytes (fields_of frame) ≡ frame)
  unchanged n = (air_of_fields frame ∙ standard_in frame (λ e. omega arith), frame_again frame s.bytes n)

  shortened : length frame ≡ 24 → (fields_of frame).air ≡ standard → frame_bytes (fields_of frame) ≡ take 22 frame
  shortened n a = shorter_again frame s.bytes n (sym (air_of_fields frame) ∙ a)

-- an accepted line
module _ (line : List ℕ) (room : ℕ) (c : Case) (a : line_verdict line room ≡ Ok c) where
  taken : LineTaken line room c
  taken = line_accepted line room c a

  sound : first_of (field_tests c) ≡ none
  unfolding whole_tests
  sound =
      let o = old_of (bytes_of line) in
      subst (λ (k : Case). first_of (field_tests k) ≡ none) (sym taken.same) (heat_clear (lost_heat o) (case_of o) taken.sound).1

  fields : Fields c
  fields = (heated_by_lem c sound).fields

  standard_air : c.air ≡ standard
  standard_air = ap (λ (k : Case). k.air) taken.same ∙ in_standard (old_of (bytes_of line))

  line_goes : (length (frame_bytes c) ≡ 22) × Sound (frame_bytes c) × (fields_of (frame_bytes c) ≡ c)
  line_goes = (
    standard_length c standard_air,
    record {
      bytes = frame_bytes_lem c;
      passes = frame_passes fields sound;
    },
    fields_again c fields,
  )

  came_back : old_line c ≡ line → AllExactly (old_of (bytes_of line)) × (upper_case line ≡ true)
  came_back e = (
    subst (λ (l : List ℕ). AllExactly (old_of (bytes_of l))) e
        (subst (λ (s : List ℕ). AllExactly (old_of s)) (sym (line_bytes c fields)) (subst (λ (o : OldCase). AllExactly o) (sym (read_again c fields)) (all_exactly c fields))),
    subst (λ (l : List ℕ). upper_case l ≡ true) e (upper_digits (old_bytes (old_case_of c)) (old_bytes_lem (old_case_of c))),
  )

  comes_back : AllExactly (old_of (bytes_of line)) × (upper_case line ≡ true) → old_line c ≡ line
  comes_back h =
      let r = taken.read in
      ap old_line taken.same
      ∙ ap (λ (o : OldCase). digits_of (old_bytes o)) (old_kept (old_of (bytes_of line)) (bytes_fit (bytes_of line) (spelled_bytes line r.digits)) h.0)
      ∙ ap digits_of (bytes_again (bytes_of line) (spelled_bytes line r.digits) (length_bytes_of 58 line r.size) r.tags r.usable)
      ∙ digits_of_bytes 58 line r.size r.digits h.1

pub round_trip : RoundTrip
round_trip =
    record {
      frame_goes = λ frame room s a r. frame_accepts frame room s.passes a r;
      frame_comes = λ frame room s a r. comes frame s room a r;
      frame_unchanged = unchanged;
      frame_shortened = shortened;
      frame_stays = λ frame room s a. frame_refuses frame room s.passes a;
      line_goes = line_goes;
      line_unchanged = λ line room c a. (came_back line room c a, comes_back line room c a);
    }
