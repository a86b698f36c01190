-- What the ring's entries for C promise: an answer that fits, as one number and two distances (request 1).
use Rattle.std.specs.Prelude.{ℕ, Ok, Err}
use Rattle.ring.specs.Answer.{Answer}
use Rattle.ring.specs.Refusals as refusals
use Rattle.linked.specs.Codes.{Left}

-- 0 and a ring's distances, or a refusal's number and both numbers as they were
abbrev pub Given : (a : Answer) (inner outer n inner_after outer_after : ℕ) → Type 0
Given (Ok ring) inner outer n inner_after outer_after = Left 0 ring.inner ring.outer n inner_after outer_after
Given (Err r) inner outer n inner_after outer_after = Left (refusals.number r) inner outer n inner_after outer_after

pub record Answered (Fits : Answer → Type 0) (inner outer n inner_after outer_after : ℕ) : Type 0 where
  pub answer : Answer
  pub fits : Fits answer
  pub given : Given answer inner outer n inner_after outer_after
