-- `text::Stream::hold` meets its contract. Assumes nothing.
use mathlib.Core.Path.{refl}
use Rattle.text.proofs.Holds.{held_line}
use Rattle.text.proofs.Stream.hold.Goals as goal

pub returns : goal.returns
returns c =
    record { lines = refl; line = held_line c.args.self.now c.args.chars.now c.copy_from_slice.new.self c.min-n.ensures c.copy_from_slice.ensures.after }
