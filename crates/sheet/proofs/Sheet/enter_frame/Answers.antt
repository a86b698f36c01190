-- `sheet::Sheet::enter_frame` meets its contract. Assumes nothing.
use mathlib.Core.Path.{sym, ◌∙◌}
use Rattle.frame.specs.laws.Checks.{frame_heated}
use Rattle.sheet.specs.laws.Entering.{frame_adds}
use Rattle.sheet.proofs.Sheet.enter_frame.Goals as goal

pub enter-requires : goal.enter-requires
enter-requires c d e =
    frame_heated _ d (sym c.check_frame.ensures ∙ e)

pub returns : goal.returns
returns c =
    frame_adds c.args.frame.now c.check_frame.ensures c.enter.ensures
