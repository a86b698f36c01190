-- `sheet::Sheet::take` meets its contract. Assumes nothing.
use Rattle.places.specs.laws.Contents.{stored_hole}
use Rattle.sheet.specs.Operations.{list_of}
use Rattle.sheet.proofs.Sheet.take.Goals as goal

pub returns : goal.returns
unfolding list_of
returns c =
    (stored_hole c.args.self.now.places _ _ c.requires.0 c.put.ensures, c.after_withdrawing-self.ensures)
