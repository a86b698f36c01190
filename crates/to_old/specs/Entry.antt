-- What the way back promises: the verdict comes back, and every byte of the area is as the verdict says (request 3).
use Rattle.std.specs.Prelude.{ℕ, ◌≡◌, List, length, Err, Ok}
use Rattle.std.proofs.lemmas.List.Edits.{sets}
use Rattle.guidance.specs.declared.Case.{Case}
use Rattle.hexadecimals.specs.Written.{digits_of}
use Rattle.old_case.specs.Cases.{old_case_of}
use Rattle.old_bytes.specs.Bytes.{old_bytes}
use Rattle.to_old.specs.Verdict.{Verdict}
use Rattle.to_old.specs.Tests.{frame_verdict}

-- a case's 116 upper-case digits
abbrev pub old_line : Case → List ℕ
old_line c = digits_of (old_bytes (old_case_of c))

-- at the start of the area; a refusal leaves the area as it was
abbrev pub with_line : Verdict → List ℕ → List ℕ
with_line (Ok c) area = sets area 0 (old_line c)
with_line (Err r) area = area

pub record ToLine (frame before : List ℕ) (v : Verdict) (after : List ℕ) : Type 0 where
  pub verdict : v ≡ frame_verdict frame (length before)
  pub area : after ≡ with_line v before
