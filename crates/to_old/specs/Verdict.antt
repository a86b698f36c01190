-- What becomes of a frame that goes back.
use Rattle.std.specs.Prelude.{Result}
use Rattle.guidance.specs.declared.Case.{Case}
use Rattle.to_old.specs.declared.Refusal.{Refusal}

abbrev pub Verdict : Type 0
Verdict = Result Case Refusal
