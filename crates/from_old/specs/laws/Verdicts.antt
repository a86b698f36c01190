-- The verdict on an old line, from what reading it gave, and what is known of an accepted one. Assumes nothing.
use Rattle.std.specs.Prelude.{ℕ, ◌≤◌, true, false, List, [], ◌∷◌, length, Err, Ok}
use Rattle.std.proofs.Math.Path.{◌≡◌, refl, sym, ap}
use Rattle.std.proofs.Common.{◌∙◌, arith}
use Rattle.std.proofs.Math.Option.{Option, none, some}
use Rattle.guidance.specs.declared.Case.{Case}
use Rattle.refusals.specs.Order.{Test, ◌when◌, first_of, held}
use Rattle.refusals.proofs.laws.Order.{or_else, first_append}
use Rattle.hexadecimals.specs.Digits.{bytes_of}
use Rattle.fields.specs.Bytes.{frame_bytes}
use Rattle.fields.specs.laws.Back.{standard_length}
use Rattle.limits.specs.Checked.{Checked}
use Rattle.writable.specs.declared.Refusal as unwritten
use Rattle.writable.specs.Verdict as writable
use Rattle.writable.specs.Verdicts as tests
use Rattle.writable.specs.Writing.{with_text}
use Rattle.writable.specs.Steps.{placed, Written}
use Rattle.writable.specs.laws.Verdicts.{space_last, accepted, accepts}
use Rattle.writable.specs.laws.Writing.{needed_alike}
use Rattle.old_case.specs.declared.OldCase.{OldCase}
use Rattle.old_case.specs.Cases.{case_of}
use Rattle.old_case.specs.laws.Trip.{in_standard}
use Rattle.old_bytes.specs.Bytes.{old_of}
use Rattle.from_old.specs.declared.Refusal.{Refusal}
use Rattle.from_old.specs.declared.Refusal.TheVariants.{Unwritten}
use Rattle.from_old.specs.Verdict.{Verdict}
use Rattle.from_old.specs.Reading.{Reading}
use Rattle.from_old.specs.Entry.{with_frame}
use Rattle.from_old.specs.Tests.{reading_tests, whole_tests, line_tests, verdict_by, line_verdict}
use Rattle.from_old.specs.Steps.{reading_by, line_reading, wholes_checked, held_by, judged, Entered}
use Rattle.from_old.specs.laws.Readings.{Read, line_read_lem, read_passes}

held_verdict : (ts : List (Test unwritten.Refusal)) (c : Case) → verdict_by (first_of (held Unwritten ts)) c ≡ held_by (tests.verdict_by (first_of ts) c)
unfolding first_of held
held_verdict [] c = refl
held_verdict ((r when true) ∷ later) c = refl
held_verdict ((r when false) ∷ later) c = held_verdict later c

held_accepted : (v : writable.Verdict) {c : Case} → held_by v ≡ Ok c → v ≡ Ok c
held_accepted (Ok d) {c} h = let e : d ≡ c = cc in ap {B = writable.Verdict} Ok e
held_accepted (Err r) h = let z : ◌≡◌ {A = ℕ} 0 1 = cc in absurd (omega arith)

-- what was written of its whole numbers is what an old line asks for
pub entered : {r : Reading} {o : OldCase} {s : Checked} {w : writable.Verdict} {v : Verdict} {before after : List ℕ}
    → r ≡ Ok o
    → s ≡ wholes_checked o
    → Written frame_bytes s before w after
    → v ≡ held_by w
    → Entered r before v after
entered {r} {o} {s} {w} {v} {before} e f x h =
    let room = length before in
    record {
      verdict =
          h
          ∙ ap held_by (x.verdict ∙ ap (λ (q : Checked). placed q (λ (c : Case). length (frame_bytes c)) room) f ∙ needed_alike (first_of (whole_tests o)) (case_of o) _ _ room (standard_length (case_of o) (in_standard o)))
          ∙ sym (ap (λ (q : Reading). judged q room) e);
      area = x.area ∙ same w ∙ ap (λ (q : Verdict). with_frame q before) (sym h);
    }
  where
    same : (q : writable.Verdict) → with_text frame_bytes q before ≡ with_frame (held_by q) before
    same (Ok c) = refl
    same (Err u) = refl

-- an accepted line: the case is that of its whole numbers, which pass tests 3 to 6, and its frame has room
pub record LineTaken (line : List ℕ) (room : ℕ) (c : Case) : Type 0 where
  pub read : Read line
  pub same : c ≡ case_of (old_of (bytes_of line))
  pub sound : first_of (whole_tests (old_of (bytes_of line))) ≡ none
  pub room_for : 22 ≤ room

module _ (line : List ℕ) (room : ℕ) where
  abbrev o : OldCase
  o = old_of (bytes_of line)

  abbrev last : List (Test unwritten.Refusal)
  last = tests.writable_tests (whole_tests o) 22 room

  -- what reading found stands, else tests 3 to 6 and 8 decide
  pub line_judged : judged (line_reading line) room ≡ line_verdict line room
  unfolding line_reading line_verdict line_tests
  line_judged = go (first_of (reading_tests line)) ∙ sym (ap (λ (r : Option Refusal). verdict_by r (case_of o)) (first_append (reading_tests line) (held Unwritten last)))
    where
      go : (r : Option Refusal) → judged (reading_by r o) room ≡ verdict_by (or_else (λ (q : Refusal). q) r (first_of (held Unwritten last))) (case_of o)
      go none = ap held_by (space_last (whole_tests o) (λ (c : Case). 22) room (case_of o)) ∙ sym (held_verdict last (case_of o))
      go (some r) = refl

  pub line_accepted : (c : Case) → line_verdict line room ≡ Ok c → LineTaken line room c
  unfolding line_reading
  line_accepted c h = go (first_of (reading_tests line)) refl (line_judged ∙ h)
    where
      go : (r : Option Refusal) → first_of (reading_tests line) ≡ r → judged (reading_by r o) room ≡ Ok c → LineTaken line room c
      go none e j =
          let a = accepted (whole_tests o) 22 room (case_of o) (sym (space_last (whole_tests o) (λ (c : Case). 22) room (case_of o)) ∙ held_accepted (placed (wholes_checked o) (λ (c : Case). 22) room) j) in
          record { read = line_read_lem line e; same = a.0; sound = a.1; room_for = a.2 }
      go (some r) e j = let z : ◌≡◌ {A = ℕ} 0 1 = cc in absurd (omega arith)

  -- and such a line is accepted
  pub line_accepts : Read line → first_of (whole_tests o) ≡ none → 22 ≤ room → line_verdict line room ≡ Ok (case_of o)
  unfolding line_reading
  line_accepts r h l =
      sym line_judged
      ∙ ap (λ (q : Option Refusal). judged (reading_by q o) room) (read_passes line r)
      ∙ ap held_by (space_last (whole_tests o) (λ (c : Case). 22) room (case_of o) ∙ accepts (whole_tests o) 22 room (case_of o) h l)
