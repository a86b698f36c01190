-- `layout::put_range` meets its contract. Assumes nothing.
use mathlib.Core.Path.{refl}
use Rattle.layout.specs.Places.{range_byte}
use Rattle.layout.proofs.put_range.Goals as goal

pub returns : goal.returns
unfolding range_byte
returns c =
    record { all = refl }
