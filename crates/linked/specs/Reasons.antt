-- What the entry of the rules for C promises: rules that fit, as two numbers, or a refusal (request 5).
use Rattle.std.specs.Prelude.{ℕ, List, Err, Ok}
use Rattle.frame.specs.Refusals as refusals
use Rattle.rules.specs.Answer.{Answer}
use Rattle.rules.specs.Words.{number}
use Rattle.rules.specs.Rules.{FromFrame}
use Rattle.linked.specs.Codes.{Left}

-- 0 and the numbers of both rules, or a refusal's number and both numbers as they were
abbrev pub Given : (a : Answer) (pressure impulse n pressure_after impulse_after : ℕ) → Type 0
Given (Ok r) pressure impulse n pressure_after impulse_after = Left 0 (number r.pressure) (number r.impulse) n pressure_after impulse_after
Given (Err q) pressure impulse n pressure_after impulse_after = Left (refusals.number q) pressure impulse n pressure_after impulse_after

pub record Reasoned (frame : List ℕ) (pressure impulse n pressure_after impulse_after : ℕ) : Type 0 where
  pub answer : Answer
  pub fits : FromFrame frame answer
  pub given : Given answer pressure impulse n pressure_after impulse_after
