-- `span::whole` meets its contract. Assumes nothing.
use Rattle.span.proofs.Operations.{whole_number}
use Rattle.span.proofs.whole.Goals as goal

pub returns : goal.returns
returns c =
    whole_number _ _ c.norm.ensures
