-- `text::records::put_record` meets its contract: its pieces stand one behind the other. Assumes nothing.
use mathlib.Core.Path.{refl}
use Rattle.text.proofs.Pieces.{printed}
use Rattle.text.proofs.records.put_record.Goals as goal

pub returns : goal.returns
returns c =
    printed c.requires refl c.from_line-v.ensures c.put_decimal-n.ensures c.put_said-m.ensures
