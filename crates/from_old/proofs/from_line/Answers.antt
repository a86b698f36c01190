-- The verdict is that of the first test that refuses the line, the room for the frame last; the area is kept then, and begins with the frame else. Assumes nothing.
use Rattle.std.proofs.Common.{◌≡◌, ap, sym, refl, ◌∙◌, List, ℕ, length, Ok, rules}
use Rattle.fields.specs.Bytes.{frame_bytes}
use Rattle.limits.specs.Checked.{Checked}
use Rattle.writable.specs.Verdict as writable
use Rattle.writable.specs.Steps.{Written}
use Rattle.old_case.specs.declared.OldCase.{OldCase}
use Rattle.from_old.specs.Verdict.{Verdict}
use Rattle.from_old.specs.Reading.{Reading}
use Rattle.from_old.specs.Entry.{FromLine}
use Rattle.from_old.specs.Steps.{line_reading, wholes_checked, held_by, judged}
use Rattle.from_old.specs.laws.Readings.{usable_if_old}
use Rattle.from_old.specs.laws.Verdicts.{line_judged, entered}
use Rattle.from_old.proofs.from_line.Goals as goal

-- an old line that was read, and what was written of it
of_read : (line : List ℕ) {r : Reading} {o : OldCase} {s : Checked} {w : writable.Verdict} {v : Verdict} {before after : List ℕ}
    → r ≡ line_reading line
    → r ≡ Ok o
    → s ≡ wholes_checked o
    → Written frame_bytes s before w after
    → v ≡ held_by w
    → FromLine line before v after
of_read line {before = before} e q f x h =
    let n = entered q f x h in
    record { verdict = n.verdict ∙ ap (λ (r : Reading). judged r (length before)) e ∙ line_judged line (length before); area = n.area }

pub returns-in_err-o : goal.returns-in_err-o
returns-in_err-o c =
    let a = c.args in
    record { verdict = rw (sym (line_judged a.line.now (length a.area.now)), sym c.read_line.ensures) (search rules); area = search rules }

pub check-requires : goal.check-requires
check-requires c =
    usable_if_old _ _ (sym c.read_line.ensures ∙ c.in_ok-o.was)

pub returns-in_err-c : goal.returns-in_err-c
returns-in_err-c c =
    of_read c.args.line.now c.read_line.ensures c.in_ok-o.was c.check.ensures c.write_frame.ensures (rw c.in_err-c.was (search rules))

pub returns : goal.returns
returns c =
    of_read c.args.line.now c.read_line.ensures c.in_ok-o.was c.check.ensures c.write_frame.ensures (rw c.in_ok-c.was refl)
