-- `a * b` of two `Log` meets its contract. Assumes nothing.
use Rattle.fixed.proofs.Pairs.{coarse_pairs, coarse_small, mirror_pairs, upper, product_returns}
use Rattle.fixed.proofs.LogMul.mul.Goals as goal

pub lowest-requires : goal.lowest-requires
lowest-requires c =
    coarse_pairs c.requires c.coarse-a.ensures c.coarse-b.ensures

pub neg-requires : goal.neg-requires
neg-requires c =
    coarse_small c.requires c.coarse-a.ensures c.coarse-b.ensures

pub lowest-requires-2 : goal.lowest-requires-2
lowest-requires-2 c =
    mirror_pairs c.requires c.coarse-a.ensures c.coarse-b.ensures c.neg.ensures

pub overflow_sub-result : goal.overflow_sub-result
overflow_sub-result c =
    (upper c.requires c.coarse-a.ensures c.coarse-b.ensures c.neg.ensures c.lowest.ensures c.lowest-2.ensures).fits

pub returns : goal.returns
returns c =
    product_returns c.requires c.coarse-a.ensures c.coarse-b.ensures c.neg.ensures c.lowest.ensures c.lowest-2.ensures
