-- What the steps of the way in promise one another.
use Rattle.std.specs.Prelude.{ℕ, ◌≡◌, false, cond, List, length, Err, Ok}
use Rattle.std.proofs.Math.Option.{Option, none, some}
use Rattle.guidance.specs.declared.Case.{Case}
use Rattle.refusals.specs.Order.{first_of}
use Rattle.hexadecimals.specs.Digits.{bytes_of}
use Rattle.limits.specs.Checked.{Checked}
use Rattle.limits.specs.Checks.{checked_by}
use Rattle.writable.specs.Verdict as writable
use Rattle.writable.specs.Steps.{placed}
use Rattle.old_case.specs.declared.OldCase.{OldCase}
use Rattle.old_case.specs.Cases.{unusable_in, case_of}
use Rattle.old_bytes.specs.Bytes.{old_of, misplaced}
use Rattle.from_old.specs.declared.Refusal.{Refusal}
use Rattle.from_old.specs.declared.Refusal.TheVariants.{Unwritten, Tag, Double}
use Rattle.from_old.specs.Verdict.{Verdict}
use Rattle.from_old.specs.Reading.{Reading}
use Rattle.from_old.specs.Tests.{reading_tests, whole_tests}
use Rattle.from_old.specs.Entry.{with_frame}

-- by tests 15 and 16 alone, and by 1 and 2 before them
abbrev pub bytes_reading : List ℕ → Reading
bytes_reading s = cond (misplaced s) (Err Tag) (cond (unusable_in (old_of s)) (Err Double) (Ok (old_of s)))

abbrev pub reading_by : Option Refusal → OldCase → Reading
reading_by none o = Ok o
reading_by (some r) o = Err r

unfoldable pub line_reading : List ℕ → Reading
line_reading line = reading_by (first_of (reading_tests line)) (old_of (bytes_of line))

-- what was read has usable doubles
abbrev pub UsableIfOld : Reading → Type 0
UsableIfOld r = (o : OldCase) → r ≡ Ok o → unusable_in o ≡ false

-- by tests 3 to 6 of the whole numbers
abbrev pub wholes_checked : OldCase → Checked
wholes_checked o = checked_by (first_of (whole_tests o)) (case_of o)

-- the verdict of a case that is to be written, as an old line's
abbrev pub held_by : writable.Verdict → Verdict
held_by (Ok c) = Ok c
held_by (Err r) = Err (Unwritten r)

-- what reading found stands, else tests 3 to 6 and 8 decide
abbrev pub judged : Reading → (room : ℕ) → Verdict
judged (Ok o) room = held_by (placed (wholes_checked o) (λ (c : Case). 22) room)
judged (Err r) room = Err r

pub record Entered (r : Reading) (before : List ℕ) (v : Verdict) (after : List ℕ) : Type 0 where
  pub verdict : v ≡ judged r (length before)
  pub area : after ≡ with_frame v before
