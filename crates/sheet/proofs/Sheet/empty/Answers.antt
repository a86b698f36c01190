-- `sheet::Sheet::empty` meets its contract. Assumes nothing.
use mathlib.Core.Path.{sym, ap, ◌∙◌}
use Rattle.totals.specs.Totals.{totals_of}
use Rattle.sheet.specs.Operations.{list_of}
use Rattle.sheet.proofs.Sheet.empty.Goals as goal

pub returns : goal.returns
unfolding list_of
returns c =
    (c.empty.ensures, c.none.ensures ∙ ap totals_of (sym c.empty.ensures))
