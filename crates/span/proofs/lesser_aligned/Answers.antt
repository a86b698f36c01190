-- `span::lesser_aligned` meets its contract. Assumes nothing.
use Rattle.std.proofs.Common.{refl, arith}
use Rattle.span.proofs.Comparisons.{smaller_rounded}
use Rattle.span.proofs.lesser_aligned.Goals as goal

pub returns : goal.returns
returns c =
    smaller_rounded _ _ _ _ c.requires c.ratio-k.ensures (omega arith) (omega arith) refl
