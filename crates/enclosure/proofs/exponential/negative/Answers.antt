-- `enclosure::exponential::negative` meets its contract. Assumes nothing.
use Rattle.std.proofs.Common.{arith}
use Rattle.enclosure.proofs.ExpSigns.{at_negative}
use Rattle.enclosure.proofs.exponential.negative.Goals as goal

pub returns : goal.returns
returns c =
    at_negative 0 _ c.args.y (omega arith) c.requires.0 c.requires.1 c.positive.ensures c.quo.ensures
