-- `totals::Totals::none` meets its contract. Assumes nothing.
use mathlib.Core.Path.{refl}
use Rattle.totals.specs.Totals.{count, greatest, first_with, totals_of}
use Rattle.totals.proofs.Totals.none.Goals as goal

pub returns : goal.returns
unfolding totals_of count greatest first_with
returns c =
    refl
