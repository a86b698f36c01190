-- Laws of the verdicts: when each is given, and what an accepted case satisfies. Assumes nothing.
use Rattle.std.specs.Prelude.{ℕ, ◌≤◌, ◌<◌, ◌≡◌, refl, true, false, List, ◌++◌, Err, Ok}
use Rattle.std.proofs.Common.{ap, sym, ◌∙◌, arith, ne_eqb, ltb-false, le-ltb}
use Rattle.std.proofs.Math.Option.{Option, none, some}
use Rattle.guidance.specs.declared.Case.{Case}
use Rattle.guidance.specs.Cases as cases
use Rattle.guidance.proofs.laws.Domain.{accepted}
use Rattle.guidance.specs.CloudWords.{Heated}
use Rattle.guidance.specs.AirPressure.{air_of}
use Rattle.refusals.specs.declared.Fault.{Fault}
use Rattle.refusals.specs.declared.Fault.TheVariants.{Length, Digit, Heat}
use Rattle.frame.specs.declared.Refusal.{Refusal}
use Rattle.frame.specs.declared.Refusal.TheVariants.{Faulty, Space}
use Rattle.frame.specs.Refusals.{number}
use Rattle.fields.specs.Bytes.{fields_of, frame_bytes}
use Rattle.hexadecimals.specs.Digits.{all_digits, bytes_of}
use Rattle.refusals.specs.Order.{Test, first_of, held}
use Rattle.limits.specs.Tests.{heat_missing, value_tests, field_tests}
use Rattle.limits.specs.Checked.{Checked}
use Rattle.limits.specs.Checks.{checked_by, case_checked}
use Rattle.limits.specs.laws.Fields.{heated_passes}
use Rattle.frame.specs.Tests.{either, frame_tests, line_tests}
use Rattle.frame.specs.Verdicts.{answer_length, last_tests, verdict_by, frame_verdict, line_verdict}
use Rattle.frame.specs.Checks.{frame_checked, line_checked, placed, judged}
use Rattle.refusals.proofs.laws.Order.{or_else, first_held, same_held, found_held, neither_found, passed, applies, absent}
use Rattle.frame.specs.laws.Checks as checks

-- tests 7 and 8 decide where none of 1 to 6 applies

module _ (ts : List (Test Fault)) (c : Case) (room : ℕ) where
  behind : (o : Option Fault) → verdict_by (or_else Faulty o (first_of (last_tests c room))) c ≡ judged (checked_by o c) room
  behind none = refl
  behind (some f) = refl

  judged_by : verdict_by (first_of (held Faulty ts ++ last_tests c room)) c ≡ judged (checked_by (first_of ts) c) room
  judged_by = ap (λ (o : Option Refusal). verdict_by o c) (first_held Faulty ts (last_tests c room)) ∙ behind (first_of ts)

pub frame_judged : (frame : List ℕ) (room : ℕ) → frame_verdict frame room ≡ judged (frame_checked frame) room
unfolding frame_verdict frame_checked
frame_judged frame room = judged_by (frame_tests frame) (fields_of frame) room

pub line_judged : (line : List ℕ) (room : ℕ) → line_verdict line room ≡ judged (line_checked line) room
unfolding line_verdict line_checked
line_judged line room = judged_by (line_tests line) (fields_of (bytes_of line)) room

-- the frame of a case with its fields in their values is judged by tests 3 to 8, and with a heat by 7 and 8

pub own_judged : {c : Case} → cases.Fields c → (room : ℕ) → frame_verdict (frame_bytes c) room ≡ judged (case_checked c) room
own_judged {c} f room = frame_judged (frame_bytes c) room ∙ ap (λ (k : Checked). judged k room) (checks.own_checked f)

pub own_placed : {c : Case} → Heated c → (room : ℕ) → frame_verdict (frame_bytes c) room ≡ placed c room
own_placed {c} h room = own_judged h.fields room ∙ ap (λ (o : Option Fault). judged (checked_by o c) room) (heated_passes h)

pub line_length : (line : List ℕ) (room : ℕ) → either 44 48 line ≡ false → line_verdict line room ≡ Err (Faulty Length)
unfolding line_verdict
line_length line room h =
    let d = fields_of (bytes_of line) in
    ap (λ (o : Option Refusal). verdict_by o d) (found_held Faulty (line_tests line) Length (last_tests d room) (checks.line_length line h))

-- a line of 44 or 48 digits is judged as the frame that it spells
pub line_frame : (line : List ℕ) (room : ℕ) → either 44 48 line ≡ true → all_digits line ≡ true → line_verdict line room ≡ frame_verdict (bytes_of line) room
unfolding line_verdict frame_verdict
line_frame line room h d =
    let c = fields_of (bytes_of line) in
    ap (λ (o : Option Refusal). verdict_by o c) (same_held Faulty (line_tests line) (frame_tests (bytes_of line)) (last_tests c room) (checks.line_frame line h d))

-- what is known where a case d is given, c comes back accepted, and there is room
pub record Taken (d c : Case) (room : ℕ) : Type 0 where
  pub same : c ≡ d
  pub accepted : cases.Accepted (air_of c) c
  pub enough : answer_length ≤ room

accepted_by : (o : Option Refusal) (d c : Case) → verdict_by o d ≡ Ok c → (o ≡ none) × (c ≡ d)
accepted_by none d c h = (refl, cc)
accepted_by (some r) d c h = let z : ◌≡◌ {A = ℕ} 0 1 = cc in absurd (omega arith)

-- an accepted case has passed every test
pub record Clear (ts : List (Test Fault)) (d c : Case) (room : ℕ) : Type 0 where
  pub first : first_of ts ≡ none
  pub last : first_of (last_tests d room) ≡ none
  pub same : c ≡ d

clear : (ts : List (Test Fault)) (d c : Case) (room : ℕ) → verdict_by (first_of (held Faulty ts ++ last_tests d room)) d ≡ Ok c → Clear ts d c room
clear ts d c room h =
    let a = accepted_by (first_of (held Faulty ts ++ last_tests d room)) d c h in
    let n = neither_found Faulty (first_of ts) (first_of (last_tests d room)) (sym (first_held Faulty ts (last_tests d room)) ∙ a.0) in
    record { first = n.0; last = n.1; same = a.1 }

-- by tests 3 to 8
taken_by : (d c : Case) (room : ℕ) → Heated d → first_of (last_tests d room) ≡ none → c ≡ d → Taken d c room
unfolding last_tests
taken_by d c room w h same =
    let p = passed (last_tests d room) h in
    record { same = same; accepted = rw same (accepted w p.0); enough = ltb-false room answer_length p.1.0 }

pub record FrameTaken (frame : List ℕ) (c : Case) (room : ℕ) : Type 0 where
  pub size : either 22 24 frame ≡ true
  pub taken : Taken (fields_of frame) c room

pub frame_accepted : (frame : List ℕ) (c : Case) (room : ℕ) → frame_verdict frame room ≡ Ok c → FrameTaken frame c room
unfolding frame_verdict
frame_accepted frame c room h =
    let k = clear (frame_tests frame) (fields_of frame) c room h in
    let p = checks.frame_clear frame k.first in
    record { size = p.0; taken = taken_by (fields_of frame) c room p.1 k.last k.same }

pub record LineTaken (line : List ℕ) (c : Case) (room : ℕ) : Type 0 where
  pub size : either 44 48 line ≡ true
  pub digits : all_digits line ≡ true
  pub taken : Taken (fields_of (bytes_of line)) c room

pub line_accepted : (line : List ℕ) (c : Case) (room : ℕ) → line_verdict line room ≡ Ok c → LineTaken line c room
unfolding line_verdict
line_accepted line c room h =
    let d = fields_of (bytes_of line) in
    let k = clear (line_tests line) d c room h in
    let p = checks.line_clear line k.first in
    record { size = p.0; digits = p.1; taken = taken_by d c room p.2 k.last k.same }

-- a refusal is given only where its test applies
refused_by : (o : Option Refusal) (d : Case) (r : Refusal) → verdict_by o d ≡ Err r → o ≡ some r
refused_by none d r h = let z : ◌≡◌ {A = ℕ} 0 1 = cc in absurd (omega arith)
refused_by (some q) d r h = let e : q ≡ r = cc in ap {B = Option Refusal} some e

not_refused : (r : Refusal) (ts : List (Test Refusal)) (d : Case) → applies number (number r) ts ≡ false → verdict_by (first_of ts) d ≡ Err r → ⊥
not_refused r ts d a h = absent number r ts a (refused_by (first_of ts) d r h)

-- a frame given as bytes has no test 2
pub frame_no_digit : (frame : List ℕ) (room : ℕ) → frame_verdict frame room ≡ Err (Faulty Digit) → ⊥
unfolding frame_verdict frame_tests field_tests value_tests last_tests held
frame_no_digit frame room h = not_refused (Faulty Digit) _ (fields_of frame) refl h

-- with room for an answer there is no refusal 8

pub frame_no_space : (frame : List ℕ) (room : ℕ) → answer_length ≤ room → frame_verdict frame room ≡ Err Space → ⊥
unfolding frame_verdict frame_tests field_tests value_tests last_tests held
frame_no_space frame room enough h = not_refused Space _ (fields_of frame) (simp (le-ltb room answer_length enough)) h

pub line_no_space : (line : List ℕ) (room : ℕ) → answer_length ≤ room → line_verdict line room ≡ Err Space → ⊥
unfolding line_verdict line_tests field_tests value_tests last_tests held
line_no_space line room enough h = not_refused Space _ (fields_of (bytes_of line)) (simp (le-ltb room answer_length enough)) h

-- a given heat is never missing
pub heat_given : (frame : List ℕ) (room : ℕ) → 0 < (fields_of frame).heat → frame_verdict frame room ≡ Err (Faulty Heat) → ⊥
unfolding frame_verdict frame_tests field_tests value_tests last_tests held heat_missing
heat_given frame room given h = not_refused (Faulty Heat) _ (fields_of frame) (simp (ne_eqb (fields_of frame).heat 0 (λ e. omega arith))) h
