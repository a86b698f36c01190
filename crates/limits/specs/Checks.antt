-- What the tests of a case alone make of it.
use Rattle.std.specs.Prelude.{◌≡◌, Bool, cond, Err, Ok}
use Rattle.std.proofs.Math.Option.{Option, none, some}
use Rattle.guidance.specs.declared.Case.{Case}
use Rattle.guidance.specs.CloudWords.{Heated}
use Rattle.refusals.specs.declared.Fault.{Fault}
use Rattle.refusals.specs.declared.Fault.TheVariants.{Quantity, Heat}
use Rattle.refusals.specs.Order.{first_of}
use Rattle.limits.specs.Checked.{Checked}
use Rattle.limits.specs.Tests.{heat_missing, value_tests, field_tests}

abbrev pub checked_by : Option Fault → Case → Checked
checked_by none c = Ok c
checked_by (some f) c = Err f

-- by tests 3 to 5
abbrev pub values_checked : Case → Checked
values_checked c = checked_by (first_of (value_tests c)) c

-- what those found stands; then 5 for a heat that was given and lost, as only the old form has it (request 3); else test 6 decides
abbrev pub heat_checked : (lost : Bool) → Checked → Checked
heat_checked lost (Ok c) = cond lost (Err Quantity) (cond (heat_missing c) (Err Heat) (Ok c))
heat_checked lost (Err f) = Err f

-- by tests 3 to 6
abbrev pub case_checked : Case → Checked
case_checked c = checked_by (first_of (field_tests c)) c

-- a case that passed them has its fields in their values, and a heat
abbrev pub HeatedIfSound : Checked → Type 0
HeatedIfSound s = (c : Case) → s ≡ Ok c → Heated c
