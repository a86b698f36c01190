-- `from_old::check` meets its contract: tests 3 to 5, a lost heat, test 6. Assumes nothing.
use mathlib.Core.Path.{ap, ◌∙◌}
use Rattle.limits.specs.Checks.{values_checked, heat_checked}
use Rattle.limits.specs.laws.Checks.{heat_last}
use Rattle.old_case.specs.Cases.{case_of, lost_heat}
use Rattle.from_old.specs.Tests.{whole_tests}
use Rattle.from_old.proofs.check.Goals as goal

pub returns : goal.returns
unfolding whole_tests
returns c =
    let o = c.args.o in
    let values = c.check_values-found.ensures ∙ ap values_checked c.case_of.ensures in
    c.check_heat.ensures ∙ (λ k. heat_checked (c.is_heat_lost.ensures k) (values k)) ∙ heat_last (lost_heat o) (case_of o)
