-- `lent_sheet::read` meets its contract. Assumes nothing.
use Rattle.sheet.specs.Operations.{list_of}
use Rattle.lent_sheet.proofs.Archiving.{unpacked_list}
use Rattle.lent_sheet.proofs.read.Goals as goal

pub returns : goal.returns
unfolding list_of
returns c =
    unpacked_list _ _ c.requires c.unpack.ensures
