-- The verdict on a frame that goes back, and what is known of an accepted one. Assumes nothing.
use Rattle.std.specs.Prelude.{ℕ, ◌≤◌, ◌≡◌, List, ◌++◌, Err, Ok}
use Rattle.std.proofs.Math.Path.{refl, sym, ap}
use Rattle.std.proofs.Common.{◌∙◌, arith}
use Rattle.std.proofs.Math.Option.{Option, none, some}
use borrow.Author.Tests.{eqb-true, eq-eqb, ne_eqb, not-false, le-ltb, ltb-false}
use Rattle.guidance.specs.declared.Case.{Case}
use Rattle.guidance.specs.AirPressure.{standard}
use Rattle.guidance.specs.CloudWords.{Heated}
use Rattle.refusals.specs.declared.Fault.{Fault}
use Rattle.refusals.specs.declared.Fault.TheVariants.{Digit}
use Rattle.refusals.specs.Order.{first_of, held}
use Rattle.refusals.proofs.laws.Order.{or_else, first_held, neither_found, passed, absent}
use Rattle.fields.specs.Bytes.{fields_of}
use Rattle.limits.specs.Tests.{value_tests, field_tests}
use Rattle.limits.specs.Checks.{checked_by}
use Rattle.frame.specs.Tests.{frame_tests}
use Rattle.frame.specs.Checks.{frame_checked}
use Rattle.frame.specs.laws.Checks.{frame_clear}
use Rattle.to_old.specs.declared.Refusal.{Refusal}
use Rattle.to_old.specs.declared.Refusal.TheVariants.{Faulty, Air}
use Rattle.to_old.specs.Refusals.{number}
use Rattle.to_old.specs.Tests.{last_tests, verdict_by, frame_verdict}
use Rattle.to_old.specs.Steps.{judged}

module _ (frame : List ℕ) (room : ℕ) where
  abbrev c : Case
  c = fields_of frame

  split : first_of (held Faulty (frame_tests frame) ++ last_tests c room) ≡ or_else Faulty (first_of (frame_tests frame)) (first_of (last_tests c room))
  split = first_held Faulty (frame_tests frame) (last_tests c room)

  -- what tests 1 to 6 found stands, else 19 and 8 decide
  pub frame_judged : judged (frame_checked frame) room ≡ frame_verdict frame room
  unfolding frame_verdict frame_checked
  frame_judged = go (first_of (frame_tests frame)) ∙ sym (ap (λ (o : Option Refusal). verdict_by o c) split)
    where
      go : (o : Option Fault) → judged (checked_by o c) room ≡ verdict_by (or_else Faulty o (first_of (last_tests c room))) c
      go none = refl
      go (some f) = refl

  -- by the tests that found nothing before them
  by_last : (o : Option Refusal) → first_of (frame_tests frame) ≡ none → first_of (last_tests c room) ≡ o → frame_verdict frame room ≡ verdict_by o c
  unfolding frame_verdict
  by_last o s e = ap (λ (q : Option Refusal). verdict_by q c) (split ∙ (λ k. or_else Faulty (s k) (e k)))

  -- a frame that passes tests 1 to 6, in the standard air, with room for its line
  pub frame_accepts : first_of (frame_tests frame) ≡ none → c.air ≡ standard → 116 ≤ room → frame_verdict frame room ≡ Ok c
  unfolding last_tests first_of
  frame_accepts s a r = by_last none s (simp (eq-eqb c.air standard a, le-ltb room 116 r))

  -- in another air it is refused, whatever the area
  pub frame_refuses : first_of (frame_tests frame) ≡ none → (c.air ≡ standard → ⊥) → frame_verdict frame room ≡ Err Air
  unfolding last_tests first_of
  frame_refuses s a = by_last (some Air) s (simp (ne_eqb c.air standard a))

-- a frame that goes back: its fields pass tests 3 to 6, in the standard air, and its line has room
pub record FrameTaken (frame : List ℕ) (room : ℕ) (c : Case) : Type 0 where
  pub same : c ≡ fields_of frame
  pub sound : first_of (frame_tests frame) ≡ none
  pub heated : Heated (fields_of frame)
  pub air : (fields_of frame).air ≡ standard
  pub room_for : 116 ≤ room

accepted_by : (o : Option Refusal) (d c : Case) → verdict_by o d ≡ Ok c → (o ≡ none) × (c ≡ d)
accepted_by none d c h = (refl, cc)
accepted_by (some r) d c h = let z : ◌≡◌ {A = ℕ} 0 1 = cc in absurd (omega arith)

pub frame_accepted : (frame : List ℕ) (room : ℕ) (c : Case) → frame_verdict frame room ≡ Ok c → FrameTaken frame room c
unfolding frame_verdict last_tests
frame_accepted frame room c h =
    let d = fields_of frame in
    let a = accepted_by _ d c h in
    let n = neither_found Faulty (first_of (frame_tests frame)) (first_of (last_tests d room)) (sym (split frame room) ∙ a.0) in
    let p = passed (last_tests d room) n.1 in
    record {
      same = a.1;
      sound = n.0;
      heated = (frame_clear frame n.0).1;
      air = eqb-true d.air standard (not-false _ p.0);
      room_for = ltb-false room 116 p.1.0;
    }

-- a frame has no test 2
pub frame_no_digit : (frame : List ℕ) (room : ℕ) → frame_verdict frame room ≡ Err (Faulty Digit) → ⊥
unfolding frame_verdict last_tests held frame_tests field_tests value_tests
frame_no_digit frame room h = absent number (Faulty Digit) _ refl (by _ h)
  where
    by : (o : Option Refusal) → verdict_by o (fields_of frame) ≡ Err (Faulty Digit) → o ≡ some (Faulty Digit)
    by none e = let z : ◌≡◌ {A = ℕ} 0 1 = cc in absurd (omega arith)
    by (some q) e = let s : q ≡ Faulty Digit = cc in ap {B = Option Refusal} some s
