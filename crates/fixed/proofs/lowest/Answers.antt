-- `fixed::lowest` meets its contract. Assumes nothing.
use Rattle.fixed.proofs.Pairs.{lowest_returns}
use Rattle.fixed.proofs.lowest.Goals as goal

pub returns : goal.returns
returns c =
    lowest_returns c.requires c.min-of_lower.ensures.value c.min-of_upper.ensures.value c.min.ensures.value
