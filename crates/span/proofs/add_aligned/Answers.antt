-- `span::add_aligned` meets its contract. Assumes nothing.
use Rattle.std.proofs.Common.{refl}
use Rattle.span.proofs.Operations.{sum_ordered, sum_cuttable, sum_rounded}
use Rattle.span.proofs.add_aligned.Goals as goal

pub cut-requires : goal.cut-requires
cut-requires c =
    let down = c.shr_down-down.ensures in
    let up = c.shr_up-up.ensures in
    sum_cuttable _ _ _ _ _ _ _ c.requires down.small up.small (sum_ordered _ _ _ _ c.requires down up) refl refl refl

pub returns : goal.returns
returns c =
    sum_rounded _ _ _ _ c.requires c.shr_down-down.ensures c.shr_up-up.ensures _ _ _ refl refl c.cut.ensures
