-- What the steps of the way back promise one another.
use Rattle.std.specs.Prelude.{ℕ, Err, Ok}
use Rattle.guidance.specs.declared.Case.{Case}
use Rattle.refusals.specs.Order.{first_of}
use Rattle.limits.specs.Checked.{Checked}
use Rattle.to_old.specs.declared.Refusal.TheVariants.{Faulty}
use Rattle.to_old.specs.Verdict.{Verdict}
use Rattle.to_old.specs.Tests.{last_tests, verdict_by}

-- by tests 19 and 8
abbrev pub placed : Case → (room : ℕ) → Verdict
placed c room = verdict_by (first_of (last_tests c room)) c

-- what tests 1 to 6 found stands, else those decide
abbrev pub judged : Checked → (room : ℕ) → Verdict
judged (Ok c) room = placed c room
judged (Err f) room = Err (Faulty f)
