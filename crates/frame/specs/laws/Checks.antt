-- Laws of tests 1 to 6. Assumes nothing.
use Rattle.std.specs.Prelude.{ℕ, ◌≡◌, refl, Bool, true, false, List, eqb, Err, Ok}
use Rattle.std.proofs.Common.{sym, ap, ◌∙◌, eqb-true}
use Rattle.std.proofs.Math.Option.{Option, none, some}
use Rattle.std.proofs.lemmas.Bool.{eqb-false, not-false}
use Rattle.guidance.specs.declared.Case.{Case}
use Rattle.guidance.specs.AirPressure.{standard}
use Rattle.guidance.specs.Cases.{Fields}
use Rattle.guidance.specs.CloudWords.{Heated}
use Rattle.hexadecimals.specs.Digits.{all_digits, bytes_of}
use Rattle.refusals.specs.declared.Fault.{Fault}
use Rattle.refusals.specs.declared.Fault.TheVariants.{Length, Digit}
use Rattle.refusals.specs.Order.{first_of}
use Rattle.refusals.proofs.laws.Order.{none_first}
use Rattle.fields.specs.Bytes.{fields_of, frame_bytes}
use Rattle.fields.specs.laws.Back as back
use Rattle.limits.specs.Tests.{field_tests}
use Rattle.limits.specs.Checks.{checked_by, HeatedIfSound, case_checked}
use Rattle.limits.specs.laws.Checks.{sound_by, heated_by_lem}
use Rattle.frame.specs.Tests.{either, frame_tests, line_tests}
use Rattle.frame.specs.Checks.{frame_checked, line_read, case_tested, line_checked}
use Rattle.frame.specs.laws.Lengths.{is_first, is_second, spelled_length}

-- by tests 1 and 2

pub frame_length_lem : (frame : List ℕ) → either 22 24 frame ≡ false → first_of (frame_tests frame) ≡ some Length
unfolding first_of frame_tests
frame_length_lem frame h = simp h

pub frame_case : (frame : List ℕ) → either 22 24 frame ≡ true → first_of (frame_tests frame) ≡ first_of (field_tests (fields_of frame))
unfolding first_of frame_tests
frame_case frame h = simp h

pub line_length : (line : List ℕ) → either 44 48 line ≡ false → first_of (line_tests line) ≡ some Length
unfolding first_of line_tests
line_length line h = simp h

pub line_digit : (line : List ℕ) → either 44 48 line ≡ true → all_digits line ≡ false → first_of (line_tests line) ≡ some Digit
unfolding first_of line_tests
line_digit line h d = simp (h, d)

-- a line of 44 or 48 digits is tested as the frame that it spells
pub line_frame : (line : List ℕ) → either 44 48 line ≡ true → all_digits line ≡ true → first_of (line_tests line) ≡ first_of (frame_tests (bytes_of line))
unfolding first_of line_tests
line_frame line h d = simp (h, d) (sym (frame_case (bytes_of line) (spelled_length line h)))

-- what they make of a frame and of a line

pub frame_unsound_length : (frame : List ℕ) → either 22 24 frame ≡ false → frame_checked frame ≡ Err Length
unfolding frame_checked
frame_unsound_length frame h = rw (frame_length_lem frame h) refl

pub frame_checked_lem : (frame : List ℕ) → either 22 24 frame ≡ true → frame_checked frame ≡ case_checked (fields_of frame)
unfolding frame_checked
frame_checked_lem frame h = rw (frame_case frame h) refl

-- by tests 1 and 2, one by one

pub read_length : (line : List ℕ) → either 44 48 line ≡ false → line_read line ≡ Err Length
unfolding line_read
read_length line h = simp h

pub read_digit : (line : List ℕ) → either 44 48 line ≡ true → all_digits line ≡ false → line_read line ≡ Err Digit
unfolding line_read
read_digit line h d = simp (h, d)

pub read_case : (line : List ℕ) → either 44 48 line ≡ true → all_digits line ≡ true → line_read line ≡ Ok (fields_of (bytes_of line))
unfolding line_read
read_case line h d = simp (h, d)

-- tests 3 to 6 stand behind them
pub line_tested : (line : List ℕ) → case_tested (line_read line) ≡ line_checked line
unfolding line_checked first_of line_tests
line_tested line = go (either 44 48 line) (all_digits line) refl refl
  where
    go : (a b : Bool) → either 44 48 line ≡ a → all_digits line ≡ b → case_tested (line_read line) ≡ line_checked line
    go false b h d = ap case_tested (read_length line h) ∙ sym (ap (λ (o : Option Fault). checked_by o (fields_of (bytes_of line))) (line_length line h))
    go true false h d = ap case_tested (read_digit line h d) ∙ sym (ap (λ (o : Option Fault). checked_by o (fields_of (bytes_of line))) (line_digit line h d))
    go true true h d =
        ap case_tested (read_case line h d)
        ∙ sym (ap (λ (o : Option Fault). checked_by o (fields_of (bytes_of line))) (line_frame line h d ∙ frame_case (bytes_of line) (spelled_length line h)))

-- the frame of a case has one of the two lengths
pub frame_either : (c : Case) → either 22 24 (frame_bytes c) ≡ true
frame_either c = go (eqb c.air standard) refl
  where
    go : (b : Bool) → eqb c.air standard ≡ b → either 22 24 (frame_bytes c) ≡ true
    go true e = is_first 22 24 (frame_bytes c) (back.standard_length c (eqb-true c.air standard e))
    go false e = is_second 22 24 (frame_bytes c) (back.other_length c (eqb-false c.air standard e))

-- the frame of a case with its fields in their values is tested as the case is
pub own_checked : {c : Case} → Fields c → frame_checked (frame_bytes c) ≡ case_checked c
own_checked {c} f = frame_checked_lem (frame_bytes c) (frame_either c) ∙ ap case_checked (back.fields_again c f)

-- the frame of a case that passes tests 3 to 6 passes them, behind test 1
pub frame_passes : {c : Case} → Fields c → first_of (field_tests c) ≡ none → first_of (frame_tests (frame_bytes c)) ≡ none
frame_passes {c} f h = frame_case (frame_bytes c) (frame_either c) ∙ ap (λ (d : Case). first_of (field_tests d)) (back.fields_again c f) ∙ h

-- what passed them has its length, its digits, its fields in their values, and a heat

pub frame_clear : (frame : List ℕ) → first_of (frame_tests frame) ≡ none → (either 22 24 frame ≡ true) × Heated (fields_of frame)
unfolding frame_tests
frame_clear frame h =
    let n = none_first _ _ _ h in
    (not-false _ n.0, heated_by_lem (fields_of frame) n.1)

pub line_clear : (line : List ℕ) → first_of (line_tests line) ≡ none → (either 44 48 line ≡ true) × (all_digits line ≡ true) × Heated (fields_of (bytes_of line))
unfolding line_tests
line_clear line h =
    let n = none_first _ _ _ h in
    let m = none_first _ _ _ n.1 in
    (not-false _ n.0, not-false _ m.0, heated_by_lem (fields_of (bytes_of line)) m.1)

pub frame_heated : (frame : List ℕ) → HeatedIfSound (frame_checked frame)
unfolding frame_checked
frame_heated frame c h = let p = sound_by _ _ c h in rw p.1 (frame_clear frame p.0).1

pub line_heated : (line : List ℕ) → HeatedIfSound (line_checked line)
unfolding line_checked
line_heated line c h = let p = sound_by _ _ c h in rw p.1 (line_clear line p.0).2
