-- `damage::rank` meets its contract: the table rises, so that the entries not above p are its first ones. Assumes nothing.
use Rattle.std.proofs.Common.{◌*◌, leb, rules}
use Rattle.std.proofs.lemmas.List.Sorted.{IsPartitionPoint-from_clause}
use Rattle.damage.specs.Damage.{table}
use Rattle.damage.proofs.Ranks.{parted, counted}
use Rattle.damage.proofs.rank.Goals as goal

pub returns : goal.returns
unfolding table
returns c =
    let p = c.args.p in
    counted p _ c.partition_point.ensures.bound (IsPartitionPoint-from_clause (λ x. leb (10 * x) p) table _ c.partition_point.ensures.partitioned (parted p) λ a r f k. search rules)
