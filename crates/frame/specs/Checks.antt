-- What tests 1 to 6 alone make of a frame and of a line, and what the steps of a decision promise one another.
use Rattle.std.specs.Prelude.{ℕ, cond, List, Err, Ok}
use Rattle.guidance.specs.declared.Case.{Case}
use Rattle.hexadecimals.specs.Digits.{all_digits, bytes_of}
use Rattle.refusals.specs.declared.Fault.TheVariants.{Length, Digit}
use Rattle.refusals.specs.Order.{first_of}
use Rattle.fields.specs.Bytes.{fields_of}
use Rattle.limits.specs.Checked.{Checked}
use Rattle.limits.specs.Checks.{checked_by, case_checked}
use Rattle.frame.specs.declared.Refusal.TheVariants.{Faulty}
use Rattle.frame.specs.Verdict.{Verdict}
use Rattle.frame.specs.Tests.{either, frame_tests, line_tests}
use Rattle.frame.specs.Verdicts.{last_tests, verdict_by}

unfoldable pub frame_checked : List ℕ → Checked
frame_checked frame = checked_by (first_of (frame_tests frame)) (fields_of frame)

-- by tests 1 and 2 alone, and by tests 3 to 6 behind them
unfoldable pub line_read : List ℕ → Checked
line_read line = cond (either 44 48 line) (cond (all_digits line) (Ok (fields_of (bytes_of line))) (Err Digit)) (Err Length)

abbrev pub case_tested : Checked → Checked
case_tested (Ok c) = case_checked c
case_tested (Err f) = Err f

unfoldable pub line_checked : List ℕ → Checked
line_checked line = checked_by (first_of (line_tests line)) (fields_of (bytes_of line))

-- by tests 7 and 8
abbrev pub placed : Case → (room : ℕ) → Verdict
placed c room = verdict_by (first_of (last_tests c room)) c

-- what the first six found stands, else the last two decide
abbrev pub judged : Checked → (room : ℕ) → Verdict
judged (Ok c) room = placed c room
judged (Err f) room = Err (Faulty f)
