-- `archive::store` meets its contract: the columns of what was gathered. Assumes nothing.
use borrow.Author.Rules.{rules}
use Rattle.archive.proofs.Gathering.{gathered_archived}
use Rattle.archive.proofs.store.Goals as goal

pub returns : goal.returns
returns c =
    let g = c.gather-n.ensures in
    rw (gathered_archived _ (search rules) g.0 g.1) at c.store.ensures
