-- What becomes of a case: it is accepted, or refused by the first test that applies.
use Rattle.std.specs.Prelude.{Result}
use Rattle.guidance.specs.declared.Case.{Case}
use Rattle.frame.specs.declared.Refusal.{Refusal}

abbrev pub Verdict : Type 0
Verdict = Result Case Refusal
