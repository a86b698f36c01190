-- `enclosure_client::e_206` meets its contract. Assumes nothing.
use borrow.Author.Rules.{rules}
use Rattle.enclosure_client.proofs.Powers.{power}
use Rattle.enclosure_client.proofs.e_206.Goals as goal

pub returns : goal.returns
returns c =
    power _ _ _ (search rules) (search rules) c.expo.ensures
