-- Table 3 as a list in two parts: the entries not above a probit, and then the others. Assumes nothing.
use Rattle.std.proofs.Common.{◌≡◌, ℕ, ◌*◌, ◌≤◌, ◌<◌, true, false, get_or, length, leb, leb-true, leb-false, arith}
use Rattle.std.proofs.Math.Decide.{dec_le}
use Rattle.std.specs.List.Sorted.{IsPartitionedBy, IsPartitionPoint}
use Rattle.std.proofs.lemmas.List.Sorted.{IsNonDecreasingBy-from_default, IsPartitionedBy-leb}
use Rattle.damage.specs.Damage.{table, not_above}
use Rattle.damage.specs.laws.Readings.{table_length, table_entries, count_is}

in_order : (i j : ℕ) → i ≤ j → j < length table → 10 * get_or table i 0 ≤ 10 * get_or table j 0
in_order i j h l = go (dec_le j i)
  where
    go : Dec (j ≤ i) → 10 * get_or table i 0 ≤ 10 * get_or table j 0
    go (yes k) = let same : i ≡ j = omega arith in rw same (omega arith)
    go (no k) = omega (arith, table_entries i j (omega arith) (omega (arith, table_length)))

pub parted : (p : ℕ) → IsPartitionedBy (λ x. leb (10 * x) p) table
parted p = IsPartitionedBy-leb (λ x. 10 * x) table p (IsNonDecreasingBy-from_default (λ x. 10 * x) table 0 in_order)

pub counted : (p n : ℕ) → n ≤ length table → IsPartitionPoint (λ x. leb (10 * x) p ≡ true) (λ x. leb (10 * x) p ≡ false) table n → n ≡ not_above table p
counted p n h k =
    count_is table p n h (λ i l. leb-true _ _ (k.0 i 0 (omega arith) l)) (λ i l m. leb-false _ _ (k.1 i 0 l m))
