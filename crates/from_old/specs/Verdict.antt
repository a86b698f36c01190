-- What becomes of an old line.
use Rattle.std.specs.Prelude.{Result}
use Rattle.guidance.specs.declared.Case.{Case}
use Rattle.from_old.specs.declared.Refusal.{Refusal}

abbrev pub Verdict : Type 0
Verdict = Result Case Refusal
