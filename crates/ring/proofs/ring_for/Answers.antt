-- `ring::ring_for` meets its contract: test 9, then the search. Assumes nothing.
use mathlib.Core.Path.{sym, ◌∙◌}
use Rattle.ring.specs.laws.Entries.{outside_limits, within_limits}
use Rattle.ring.proofs.ring_for.Goals as goal

-- a threshold within its limits, then one outside them

pub returns : goal.returns
returns c =
    let a = c.args in
    let h = a.here.now in
    within_limits h.air h.case a.threshold c.search.result (sym c.is_outside.ensures ∙ c.if-is_outside.false) c.search.ensures

pub returns-then-is_outside : goal.returns-then-is_outside
returns-then-is_outside c =
    let a = c.args in
    let h = a.here.now in
    outside_limits h.air h.case a.threshold (sym c.is_outside.ensures ∙ c.if-is_outside.true)
