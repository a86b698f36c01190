-- `span::lesser` meets its contract. Assumes nothing.
use Rattle.span.proofs.Comparisons.{smaller_swapped}
use Rattle.span.proofs.lesser.Goals as goal

pub returns-then-a-b : goal.returns-then-a-b
returns-then-a-b c =
    smaller_swapped _ _ _ c.lesser_aligned.ensures
