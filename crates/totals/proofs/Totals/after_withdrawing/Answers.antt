-- `totals::Totals::after_withdrawing` meets its contract. Assumes nothing.
use mathlib.Core.Path.{◌∙◌}
use Rattle.totals.specs.laws.Changes.{shown_went, other_went}
use Rattle.totals.proofs.Totals.after_withdrawing.Goals as goal

pub returns-then-self-place : goal.returns-then-self-place
returns-then-self-place c =
    c.afresh.ensures ∙ shown_went _ _ _ c.if-self-place.true

pub returns : goal.returns
returns c =
    rw c.saturating_sub.ensures (other_went _ _ _ c.if-self-place.false)
