-- What the tests of a case alone make of it.
use Rattle.std.specs.Prelude.{Result}
use Rattle.guidance.specs.declared.Case.{Case}
use Rattle.refusals.specs.declared.Fault.{Fault}

abbrev pub Checked : Type 0
Checked = Result Case Fault
