-- From what tests 1 to 6 make of a case to the promise of the entries; which numbers never come. Assumes nothing.
use Rattle.std.specs.Prelude.{ℕ, ◌*◌, ◌≡◌, refl, true, false, List, Err}
use Rattle.std.proofs.Common.{subst, arith}
use Rattle.std.proofs.Math.Option.{Option, none, some}
use Rattle.guidance.specs.declared.Case.{Case}
use Rattle.guidance.specs.Distances.{farther, cube24}
use Rattle.guidance.specs.AirPressure.{air_of}
use Rattle.guidance.specs.Cases.{Air}
use Rattle.hexadecimals.specs.Digits.{all_digits, bytes_of}
use Rattle.refusals.specs.declared.Fault.{Fault}
use Rattle.refusals.specs.Order.{Test, first_of}
use Rattle.refusals.proofs.laws.Order.{or_else, first_held, same_held}
use Rattle.refusals.proofs.laws.Numbers.{no_fault}
use Rattle.fields.specs.Bytes.{fields_of}
use Rattle.limits.specs.Checked.{Checked}
use Rattle.limits.specs.Tests.{outside}
use Rattle.limits.specs.Checks.{checked_by}
use Rattle.frame.specs.Tests.{either, frame_tests, line_tests}
use Rattle.frame.specs.Checks.{frame_checked, line_checked}
use Rattle.frame.specs.laws.Checks.{line_frame, frame_clear, line_clear}
use Rattle.receptor.specs.Receptor.{moved}
use Rattle.receptor.specs.laws.Moved.{never_beyond}
use Rattle.ring.specs.declared.Refusal.{Refusal}
use Rattle.ring.specs.declared.Refusal.TheVariants.{Faulty, Threshold, Weak, Strong}
use Rattle.ring.specs.Answer.{Answer}
use Rattle.ring.specs.Refusals.{number}
use Rattle.ring.specs.Ring.{last_tests, tests, Fits, Answers, OwnRing, FromFrame, FromLine}
use Rattle.ring.specs.Searching.{RingFor, AnswerTo}

-- by test 9

pub outside_limits : (air : ℕ) (c : Case) (t : ℕ) → outside 1 (18 * air) t ≡ true → RingFor air c t (Err Threshold)
unfolding first_of last_tests
outside_limits air c t h = rw h refl

pub within_limits : (air : ℕ) (c : Case) (t : ℕ) (a : Answer) → outside 1 (18 * air) t ≡ false → Fits air c t a → RingFor air c t a
unfolding first_of last_tests
within_limits air c t a h f = rw h f

-- it decides where none of 1 to 6 applies
answers_by : (ts : List (Test Fault)) (c : Case) (t : ℕ) (a : Answer) → AnswerTo (checked_by (first_of ts) c) t a → OwnRing ts c t a
unfolding tests
answers_by ts c t a h = rw (first_held Faulty ts (last_tests (air_of c) t)) (go (first_of ts) h)
  where
    go : (o : Option Fault) → AnswerTo (checked_by o c) t a → Answers (or_else Faulty o (first_of (last_tests (air_of c) t))) (air_of c) c t a
    go none h = h
    go (some f) h = h

pub frame_answers : (frame : List ℕ) (t : ℕ) {s : Checked} (a : Answer) → s ≡ frame_checked frame → AnswerTo s t a → FromFrame frame t a
unfolding frame_checked
frame_answers frame t a e h = answers_by (frame_tests frame) (fields_of frame) t a (subst (λ (s : Checked). AnswerTo s t a) e h)

pub line_answers : (line : List ℕ) (t : ℕ) {s : Checked} (a : Answer) → s ≡ line_checked line → AnswerTo s t a → FromLine line t a
unfolding line_checked
line_answers line t a e h = answers_by (line_tests line) (fields_of (bytes_of line)) t a (subst (λ (s : Checked). AnswerTo s t a) e h)

-- a line of 44 or 48 digits is answered as the frame that it spells

pub line_as_frame
    : (line : List ℕ) (t : ℕ) (a : Answer) → either 44 48 line ≡ true → all_digits line ≡ true → FromLine line t a → FromFrame (bytes_of line) t a
unfolding tests
line_as_frame line t a h d f =
    let c = fields_of (bytes_of line) in
    subst (λ (o : Option Refusal). Answers o (air_of c) c t a)
    (same_held Faulty (line_tests line) (frame_tests (bytes_of line)) (last_tests (air_of c) t) (line_frame line h d)) f

-- no case that passes tests 1 to 6 is beyond at 1 cm, in any air that is covered

pub frame_never_beyond : (frame : List ℕ) → first_of (frame_tests frame) ≡ none → (air : ℕ) → Air air → farther cube24 air (moved (fields_of frame) 1) ≡ false
frame_never_beyond frame h air a = never_beyond (fields_of frame) air (frame_clear frame h).1 a

pub line_never_beyond
    : (line : List ℕ) → first_of (line_tests line) ≡ none → (air : ℕ) → Air air → farther cube24 air (moved (fields_of (bytes_of line)) 1) ≡ false
line_never_beyond line h air a = never_beyond (fields_of (bytes_of line)) air (line_clear line h).2 a

-- so 7 never comes, nor 8, since no area is lent
pub record NoSevenNorEight (n : ℕ) : Type 0 where
  pub not_beyond : n ≡ 7 → ⊥
  pub not_space : n ≡ 8 → ⊥

pub numbered : (r : Refusal) → NoSevenNorEight (number r)
numbered (Faulty f) = record { not_beyond = no_fault 7 refl f; not_space = no_fault 8 refl f }
numbered Threshold = record { not_beyond = λ e. omega arith; not_space = λ e. omega arith }
numbered Weak = record { not_beyond = λ e. omega arith; not_space = λ e. omega arith }
numbered Strong = record { not_beyond = λ e. omega arith; not_space = λ e. omega arith }
