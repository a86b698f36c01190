-- `probits::falling` meets its contract. Assumes nothing.
use Rattle.probits.proofs.Counting.{sum_scalable, falling_summands, falling_counted, falling_probit}
use Rattle.probits.proofs.falling.Goals as goal

pub scaled-requires-clause-factors : goal.scaled-requires-clause-factors
scaled-requires-clause-factors c =
    sum_scalable c.requires c.ln-l.ensures

pub sub-requires : goal.sub-requires
sub-requires c =
    falling_summands c.requires c.ln-l.ensures c.scaled.ensures

pub thousandths-requires : goal.thousandths-requires
thousandths-requires c =
    falling_counted c.requires c.ln-l.ensures c.scaled.ensures c.sub.ensures

pub returns : goal.returns
returns c =
    falling_probit c.requires c.ln-l.ensures c.scaled.ensures c.sub.ensures c.thousandths.ensures
