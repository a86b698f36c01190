-- Tests 1 to 6, then 19 and 8, and the line of what passes them.
use Rattle.std.proofs.Common.{sym, subst, length, rules}
use Rattle.guidance.specs.declared.Case.{Case}
use Rattle.guidance.specs.Cases.{Fields}
use Rattle.to_old.specs.laws.Verdicts.{frame_judged, frame_accepted}
use Rattle.to_old.proofs.to_line.Goals as goal

pub returns-in_err-sound : goal.returns-in_err-sound
returns-in_err-sound c =
    let a = c.args in
    record { verdict = rw (sym (frame_judged a.frame.now (length a.area.now)), sym c.check_frame.ensures) (search rules); area = search rules }

pub returns-in_err-c : goal.returns-in_err-c
returns-in_err-c c =
    let a = c.args in
    record { verdict = rw (sym (frame_judged a.frame.now (length a.area.now)), sym c.check_frame.ensures) (search rules); area = search rules }

pub write_line-requires : goal.write_line-requires
write_line-requires c =
    let a = c.args in
    let t = frame_accepted a.frame.now (length a.area.now) _ (rw (sym (frame_judged a.frame.now (length a.area.now)), sym c.check_frame.ensures) (search rules)) in
    (t.room_for, subst (λ (k : Case). Fields k) (sym t.same) t.heated.fields)

pub returns : goal.returns
returns c =
    let a = c.args in
    record { verdict = rw (sym (frame_judged a.frame.now (length a.area.now)), sym c.check_frame.ensures) (search rules); area = c.write_line.ensures }
