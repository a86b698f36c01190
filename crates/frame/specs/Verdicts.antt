-- The verdict on a case, by tests 1 to 8 (document 01, "Refused cases").
use Rattle.std.specs.Prelude.{ℕ, List, [], ◌∷◌, ◌++◌, ltb, Err, Ok}
use Rattle.std.proofs.Math.Option.{Option, none, some}
use Rattle.guidance.specs.declared.Case.{Case}
use Rattle.frame.specs.declared.Refusal.{Refusal}
use Rattle.frame.specs.declared.Refusal.TheVariants.{Faulty, Beyond, Space}
use Rattle.frame.specs.Verdict.{Verdict}
use Rattle.hexadecimals.specs.Digits.{bytes_of}
use Rattle.fields.specs.Bytes.{fields_of}
use Rattle.refusals.specs.Order.{Test, ◌when◌, first_of, held}
use Rattle.frame.specs.Tests.{frame_tests, line_tests, beyond}

-- the bytes of an answer frame
abbrev pub answer_length : ℕ
answer_length = 77

-- tests 7 and 8
unfoldable pub last_tests : Case → (room : ℕ) → List (Test Refusal)
last_tests c room = (Beyond when beyond c) ∷ (Space when ltb room answer_length) ∷ []

-- the first test that applies refuses the case; a case to which none applies is accepted
abbrev pub verdict_by : Option Refusal → Case → Verdict
verdict_by none c = Ok c
verdict_by (some r) c = Err r

-- tests 1 to 8
unfoldable pub frame_verdict : List ℕ → (room : ℕ) → Verdict
frame_verdict frame room = verdict_by (first_of (held Faulty (frame_tests frame) ++ last_tests (fields_of frame) room)) (fields_of frame)

unfoldable pub line_verdict : List ℕ → (room : ℕ) → Verdict
line_verdict line room =
    verdict_by (first_of (held Faulty (line_tests line) ++ last_tests (fields_of (bytes_of line)) room)) (fields_of (bytes_of line))
