-- What the way in promises: the verdict comes back, and every byte of the area is as the verdict says (request 3).
use Rattle.std.specs.Prelude.{ℕ, ◌≡◌, List, length, Err, Ok}
use Rattle.std.proofs.lemmas.List.Edits.{sets}
use Rattle.fields.specs.Bytes.{frame_bytes}
use Rattle.from_old.specs.Verdict.{Verdict}
use Rattle.from_old.specs.Tests.{line_verdict}

-- the frame's 22 bytes at the start of the area; a refusal leaves the area as it was
abbrev pub with_frame : Verdict → List ℕ → List ℕ
with_frame (Ok c) area = sets area 0 (frame_bytes c)
with_frame (Err r) area = area

pub record FromLine (line before : List ℕ) (v : Verdict) (after : List ℕ) : Type 0 where
  pub verdict : v ≡ line_verdict line (length before)
  pub area : after ≡ with_frame v before
