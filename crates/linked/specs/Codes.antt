-- What the entries for C promise: a verdict as one number, and what was lent as the verdict says.
use Rattle.std.specs.Prelude.{ℕ, ◌≡◌, List, Err, Ok}
use Rattle.exact.specs.Formula.{Formula}
use Rattle.guidance.specs.declared.Case.{Case}
use Rattle.frame.specs.Verdict.{Verdict}
use Rattle.frame.specs.Refusals.{code}
use Rattle.frame.specs.Verdicts.{answer_length, frame_verdict}
use Rattle.blast.specs.WaveEnds.{WaveEnds}
use Rattle.answer.specs.Answer.{Answered}

-- an entry's return: the verdict's number, and the area as the verdict says
pub record Entered (v : Verdict) (n : ℕ) (before after : List ℕ) : Type 0 where
  pub returned : n ≡ code v
  pub area : Answered v before after

-- by the verdict: an accepted case's figure x in whole units, enclosed within the width rule; a refusal leaves both numbers as they were
abbrev pub Given : (x : Case → Formula) (v : Verdict) (lower upper lower_after upper_after : ℕ) → Type 0
Given x (Ok c) lower upper lower_after upper_after = WaveEnds (x c) (record { lower = lower_after; upper = upper_after })
Given x (Err r) lower upper lower_after upper_after = (lower_after ≡ lower) × (upper_after ≡ upper)

-- the verdict on a frame that has room for its answer, so that test 8 never applies
pub record FigureAnswered (x : Case → Formula) (frame : List ℕ) (lower upper n lower_after upper_after : ℕ) : Type 0 where
  pub returned : n ≡ code (frame_verdict frame answer_length)
  pub ends : Given x (frame_verdict frame answer_length) lower upper lower_after upper_after

-- what comes back, and what two lent numbers hold then
pub record Left (returned first second n first_after second_after : ℕ) : Type 0 where
  pub number : n ≡ returned
  pub first-is : first_after ≡ first
  pub second_is : second_after ≡ second
