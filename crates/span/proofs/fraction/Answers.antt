-- `span::fraction` meets its contract. Assumes nothing.
use Rattle.std.proofs.Common.{rules}
use Rattle.span.proofs.Operations.{fraction_divisible, fraction_quotient}
use Rattle.span.proofs.fraction.Goals as goal

pub quo-requires : goal.quo-requires
quo-requires c =
    let p = c.requires in fraction_divisible p.0 p.1 c.whole.ensures c.whole-2.ensures (search rules) (search rules)

pub returns : goal.returns
returns c =
    let p = c.requires in fraction_quotient p.0 p.1 c.whole.ensures c.whole-2.ensures (search rules) (search rules) c.quo.ensures
