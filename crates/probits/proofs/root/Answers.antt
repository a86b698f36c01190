-- `probits::root` meets its contract. Assumes nothing.
use Rattle.probits.proofs.Powers.{root_powerable, root_of}
use Rattle.probits.proofs.root.Goals as goal

pub sixth_power-requires : goal.sixth_power-requires
sixth_power-requires c =
    root_powerable c.requires c.whole.ensures

pub returns : goal.returns
returns c =
    root_of c.requires c.whole.ensures c.sixth_power.ensures
