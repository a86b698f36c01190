-- `span::add` meets its contract. Assumes nothing.
use Rattle.span.proofs.Operations.{sum_swapped}
use Rattle.span.proofs.add.Goals as goal

pub returns-then-a-b : goal.returns-then-a-b
returns-then-a-b c =
    sum_swapped _ _ _ c.add_aligned.ensures
