-- `sheet::Sheet::close_up` meets its contract. Assumes nothing.
use Rattle.sheet.specs.laws.Places.{closes}
use Rattle.sheet.proofs.Sheet.close_up.Goals as goal

pub returns : goal.returns
returns c =
    closes _ _ _ c.close.ensures c.last.ensures c.afresh-self.ensures
