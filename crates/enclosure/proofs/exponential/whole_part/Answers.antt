-- `enclosure::exponential::whole_part` meets its contract. Assumes nothing.
use Rattle.std.proofs.Common.{refl, ◌/◌, ◌%◌}
use native.Mathlib.Omega.{arith}
use Rattle.enclosure.specs.ExpTables.{sixteen_table, one_table}
use Rattle.enclosure.proofs.Entries.{sixteen_in, one_in}
use Rattle.enclosure.proofs.ExpProducts.{factors, product_in, whole_digits}
use Rattle.enclosure.proofs.exponential.whole_part.Goals as goal

pub mul-requires : goal.mul-requires
unfolding sixteen_table one_table
mul-requires c =
    factors (sixteen_in {d = c.args.n / 16} c.entry-a.ensures (omega arith)) (one_in {d = c.args.n % 16} c.entry-b.ensures (omega arith)) (omega arith)

pub returns : goal.returns
unfolding sixteen_table one_table
returns c =
    product_in 10900 4 1732 c.mul.ensures (sixteen_in {d = c.args.n / 16} c.entry-a.ensures (omega arith)) (one_in {d = c.args.n % 16} c.entry-b.ensures (omega arith))
    (whole_digits _ _ _ (omega arith)) (omega arith) refl (omega arith)
