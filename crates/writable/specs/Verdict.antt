-- What becomes of a case that is to be written.
use Rattle.std.specs.Prelude.{Result}
use Rattle.guidance.specs.declared.Case.{Case}
use Rattle.writable.specs.declared.Refusal.{Refusal}

abbrev pub Verdict : Type 0
Verdict = Result Case Refusal
