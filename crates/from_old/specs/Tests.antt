-- The tests of an old line in their order: 1, 2, 15, 16, 3 to 6, 8 (request 3).
use Rattle.std.specs.Prelude.{ℕ, not, List, [], ◌∷◌, ◌++◌, length, eqb, Err, Ok}
use Rattle.std.proofs.Math.Option.{Option, none, some}
use Rattle.guidance.specs.declared.Case.{Case}
use Rattle.refusals.specs.declared.Fault.{Fault}
use Rattle.refusals.specs.declared.Fault.TheVariants.{Length, Digit}
use Rattle.refusals.specs.Order.{Test, ◌when◌, first_of, held}
use Rattle.hexadecimals.specs.Digits.{all_digits, bytes_of}
use Rattle.limits.specs.Tests.{value_tests, heat_tests}
use Rattle.writable.specs.declared.Refusal.TheVariants.{Faulty}
use Rattle.writable.specs.Verdicts.{writable_tests}
use Rattle.old_case.specs.declared.OldCase.{OldCase}
use Rattle.old_case.specs.Cases.{unusable_in, case_of, lost_heat}
use Rattle.old_bytes.specs.Bytes.{old_of, misplaced}
use Rattle.from_old.specs.declared.Refusal.{Refusal}
use Rattle.from_old.specs.declared.Refusal.TheVariants.{Unwritten, Tag, Double}
use Rattle.from_old.specs.Verdict.{Verdict}

-- a line has 116 digits; every tag is looked at before any double
unfoldable pub reading_tests : (line : List ℕ) → List (Test Refusal)
reading_tests line =
    (Unwritten (Faulty Length) when not (eqb (length line) 116))
    ∷ (Unwritten (Faulty Digit) when not (all_digits line))
    ∷ (Tag when misplaced (bytes_of line))
    ∷ (Double when unusable_in (old_of (bytes_of line)))
    ∷ []

-- tests 3 to 6 of the whole numbers, whatever their size; a heat that was lost on the way is 5
unfoldable pub whole_tests : OldCase → List (Test Fault)
whole_tests o = value_tests (case_of o) ++ heat_tests (lost_heat o) (case_of o)

-- last 8, if the area is shorter than a frame's 22 bytes
unfoldable pub line_tests : (line : List ℕ) (room : ℕ) → List (Test Refusal)
line_tests line room = reading_tests line ++ held Unwritten (writable_tests (whole_tests (old_of (bytes_of line))) 22 room)

-- the first test that applies refuses the line; a line to which none applies is accepted
abbrev pub verdict_by : Option Refusal → Case → Verdict
verdict_by none c = Ok c
verdict_by (some r) c = Err r

unfoldable pub line_verdict : (line : List ℕ) (room : ℕ) → Verdict
line_verdict line room = verdict_by (first_of (line_tests line room)) (case_of (old_of (bytes_of line)))
