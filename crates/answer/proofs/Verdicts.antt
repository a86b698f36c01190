-- What an accepted verdict says of the case and of the area. Assumes nothing.
use mathlib.Core.Path.{◌≡◌, sym, ◌∙◌}
use mathlib.Core.List.{List}
use Prim.Native.Nat.{ℕ}
use lib.ListN.{length}
use Rattle.guidance.specs.declared.Case.{Case}
use Rattle.frame.specs.Verdict.{Verdict}
use Rattle.frame.specs.Verdicts.{frame_verdict, line_verdict}
use Rattle.frame.specs.laws.Verdicts.{Taken, frame_accepted, line_accepted}
use Rattle.answer.specs.Entering.{Due, Enterable}

due : {d c : Case} {area : List ℕ} → Taken d c (length area) → Due c area
due t = record { accepted = t.accepted; room = t.enough }

pub due_frame : (frame area : List ℕ) {v : Verdict} → v ≡ frame_verdict frame (length area) → Enterable v area
due_frame frame area d c g = due (frame_accepted frame c (length area) (sym d ∙ g)).taken

pub due_line : (line area : List ℕ) {v : Verdict} → v ≡ line_verdict line (length area) → Enterable v area
due_line line area d c g = due (line_accepted line c (length area) (sym d ∙ g)).taken
