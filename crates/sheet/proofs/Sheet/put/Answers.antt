-- `sheet::Sheet::put` meets its contract: the place after the last, and the totals with it. Assumes nothing.
use Rattle.sheet.specs.laws.Entering.{puts}
use Rattle.sheet.proofs.Sheet.put.Goals as goal

pub returns : goal.returns
returns c =
    puts c.args.self.now _ _ _ c.requires.0 c.requires.1 c.put.ensures c.after_adding-self.ensures
