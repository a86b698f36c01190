-- `enclosure_client::e_minus_59` meets its contract. Assumes nothing.
use borrow.Author.Rules.{rules}
use Rattle.enclosure_client.proofs.Powers.{power}
use Rattle.enclosure_client.proofs.e_minus_59.Goals as goal

pub returns : goal.returns
returns c =
    power _ _ _ (search rules) (search rules) c.expo.ensures
