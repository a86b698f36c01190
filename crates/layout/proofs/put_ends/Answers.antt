-- `layout::put_ends` meets its contract: the upper end is stored after the lower. Assumes nothing.
use native.Mathlib.Omega.{arith}
use Rattle.byte_numbers.proofs.Sizes.{last_length}
use Rattle.byte_numbers.specs.laws.Storing.{and_then}
use Rattle.layout.proofs.put_ends.Goals as goal

pub returns : goal.returns
returns g c =
    and_then c.put.ensures c.put-2.ensures (omega (arith, last_length c.args.e.lower g.row.N c.requires.size))
