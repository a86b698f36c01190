-- `text::Stream::put_held` meets its contract. Assumes nothing.
use Rattle.text.proofs.Endings.{ends_held}
use Rattle.text.proofs.Stream.put_held.Goals as goal

pub returns : goal.returns
returns c =
    ends_held c.put_record.ensures
