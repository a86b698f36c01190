-- The rules of an accepted case, or the first test that applies.
use Rattle.std.specs.Prelude.{Result}
use Rattle.rules.specs.declared.Rules.{Rules}
use Rattle.frame.specs.declared.Refusal.{Refusal}

abbrev pub Answer : Type 0
Answer = Result Rules Refusal
