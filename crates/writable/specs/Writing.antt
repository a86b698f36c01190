-- What an entry that writes a case promises: the verdict comes back, and every byte of the area is as the verdict says (request 9).
use Rattle.std.specs.Prelude.{ℕ, ◌≡◌, List, Err, Ok}
use Rattle.std.proofs.lemmas.List.Edits.{sets}
use Rattle.guidance.specs.declared.Case.{Case}
use Rattle.writable.specs.Verdict.{Verdict}

-- an accepted case's text at the start of the area; a refusal leaves the area as it was
abbrev pub with_text : (text : Case → List ℕ) → Verdict → List ℕ → List ℕ
with_text text (Ok c) area = sets area 0 (text c)
with_text text (Err r) area = area

pub record Writes (text : Case → List ℕ) (due : Verdict) (before : List ℕ) (v : Verdict) (after : List ℕ) : Type 0 where
  pub verdict : v ≡ due
  pub area : after ≡ with_text text v before
