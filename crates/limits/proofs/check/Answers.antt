-- `limits::check` meets its contract: test 6 stands behind the others. Assumes nothing.
use mathlib.Core.Path.{ap, ◌∙◌}
use mathlib.Core.Bool.{false}
use Rattle.limits.specs.Checks.{heat_checked}
use Rattle.limits.specs.laws.Checks.{case_checked_lem}
use Rattle.limits.proofs.check.Goals as goal

pub returns : goal.returns
returns c =
    c.check_heat.ensures ∙ ap (heat_checked false) c.check_values.ensures ∙ case_checked_lem _
