-- The tests of a frame that goes to the old form, in their order: 1, 3 to 6, 19, 8 (requests 3 and 11).
use Rattle.std.specs.Prelude.{ℕ, not, List, [], ◌∷◌, ◌++◌, eqb, ltb, Err, Ok}
use Rattle.std.proofs.Math.Option.{Option, none, some}
use Rattle.guidance.specs.declared.Case.{Case}
use Rattle.guidance.specs.AirPressure.{standard}
use Rattle.refusals.specs.Order.{Test, ◌when◌, first_of, held}
use Rattle.fields.specs.Bytes.{fields_of}
use Rattle.frame.specs.Tests.{frame_tests}
use Rattle.to_old.specs.declared.Refusal.{Refusal}
use Rattle.to_old.specs.declared.Refusal.TheVariants.{Faulty, Air, Space}
use Rattle.to_old.specs.Verdict.{Verdict}

-- 19, if the air pressure is not 10,130; last 8, if the area is shorter than a line's 116 characters
unfoldable pub last_tests : Case → (room : ℕ) → List (Test Refusal)
last_tests c room = (Air when not (eqb c.air standard)) ∷ (Space when ltb room 116) ∷ []

-- the first test that applies refuses the frame; a frame to which none applies is accepted
abbrev pub verdict_by : Option Refusal → Case → Verdict
verdict_by none c = Ok c
verdict_by (some r) c = Err r

unfoldable pub frame_verdict : (frame : List ℕ) (room : ℕ) → Verdict
frame_verdict frame room = verdict_by (first_of (held Faulty (frame_tests frame) ++ last_tests (fields_of frame) room)) (fields_of frame)
