-- The verdict on a case that is to be written: its own tests, and last 8 (requests 3 and 9).
use Rattle.std.specs.Prelude.{ℕ, List, [], ◌∷◌, ◌++◌, ltb, length, Err, Ok}
use Rattle.std.proofs.Math.Option.{Option, none, some}
use Rattle.guidance.specs.declared.Case.{Case}
use Rattle.refusals.specs.declared.Fault.{Fault}
use Rattle.refusals.specs.Order.{Test, ◌when◌, first_of, held}
use Rattle.writable.specs.declared.Refusal.{Refusal}
use Rattle.writable.specs.declared.Refusal.TheVariants.{Faulty, Space}
use Rattle.writable.specs.Verdict.{Verdict}

-- 8 if the area is shorter than what is written
unfoldable pub writable_tests : List (Test Fault) → (needed room : ℕ) → List (Test Refusal)
writable_tests tests needed room = held Faulty tests ++ (Space when ltb room needed) ∷ []

-- the first test that applies refuses the case; a case to which none applies is accepted
abbrev pub verdict_by : Option Refusal → Case → Verdict
verdict_by none c = Ok c
verdict_by (some r) c = Err r

-- the verdict on a case with its own tests, of which `text` is to be written
unfoldable pub writable_verdict : (text : Case → List ℕ) (tests : List (Test Fault)) (c : Case) (room : ℕ) → Verdict
writable_verdict text tests c room = verdict_by (first_of (writable_tests tests (length (text c)) room)) c
