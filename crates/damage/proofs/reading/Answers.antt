-- `damage::reading` meets its contract. Assumes nothing.
use Rattle.std.proofs.Common.{arith}
use Rattle.damage.specs.laws.Readings.{before_table, past_table, table_count, tenths_low, tenths_high}
use Rattle.damage.proofs.reading.Goals as goal

pub overflow_add-result : goal.overflow_add-result
overflow_add-result c =
    omega (arith, table_count c.args.p)

pub returns-in-0-to-2669 : goal.returns-in-0-to-2669
returns-in-0-to-2669 c =
    before_table {p = c.args.p} (omega (arith, c.in-0-to-2669))

pub returns-in-0-to-99 : goal.returns-in-0-to-99
returns-in-0-to-99 c =
    tenths_low c.rank.ensures (omega (arith, c.in-0-to-99))

pub returns-in_default-rank : goal.returns-in_default-rank
returns-in_default-rank c =
    tenths_high c.rank.ensures (omega (arith, c.in_default-rank))

pub returns-in_default : goal.returns-in_default
returns-in_default c =
    past_table {p = c.args.p} (omega (arith, c.in_default))
