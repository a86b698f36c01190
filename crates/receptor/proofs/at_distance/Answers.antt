-- `receptor::at_distance` meets its contract. Assumes nothing.
use Rattle.guidance.proofs.laws.Domain.{heated_placed}
use Rattle.receptor.specs.laws.Moved.{placed_moved}
use Rattle.receptor.proofs.at_distance.Goals as goal

pub invariant_of-result : goal.invariant_of-result
invariant_of-result c =
    let p = c.args.here.now.placed in
    record { placed = rw c.moved-case.ensures (placed_moved (heated_placed p) p.cloud p.pressure c.requires) }
