-- What the steps of an entry that writes a case promise one another.
use Rattle.std.specs.Prelude.{ℕ, cond, List, ltb, length, Err, Ok}
use Rattle.guidance.specs.declared.Case.{Case}
use Rattle.limits.specs.Checked.{Checked}
use Rattle.writable.specs.declared.Refusal.TheVariants.{Faulty, Space}
use Rattle.writable.specs.Verdict.{Verdict}
use Rattle.writable.specs.Writing.{Writes}

-- the verdict, from what the case's own tests found
abbrev pub placed : Checked → (needed : Case → ℕ) (room : ℕ) → Verdict
placed (Ok c) needed room = cond (ltb room (needed c)) (Err Space) (Ok c)
placed (Err f) needed room = Err (Faulty f)

-- the bytes that are needed for the text of a case which passed its own tests; a fault needs none
abbrev pub needed_for : (text : Case → List ℕ) → Checked → ℕ
needed_for text (Ok c) = length (text c)
needed_for text (Err f) = 0

abbrev pub Written : (text : Case → List ℕ) (s : Checked) (before : List ℕ) (v : Verdict) (after : List ℕ) → Type 0
Written text s before = Writes text (placed s (λ (c : Case). length (text c)) (length before)) before
