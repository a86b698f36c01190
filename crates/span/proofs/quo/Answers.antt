-- `span::quo` meets its contract. Assumes nothing.
use Rattle.std.proofs.Common.{refl}
use Rattle.span.proofs.Operations.{divided, quotient_rounded}
use Rattle.span.proofs.quo.Goals as goal

pub returns : goal.returns
returns c =
    let d = c.requires in quotient_rounded _ _ _ _ _ d (divided _ _ _ _ d refl c.div_ceil-hi.ensures) c.norm.ensures
