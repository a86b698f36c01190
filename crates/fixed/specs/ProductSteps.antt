-- What the steps of a product hand to one another, as equations of signed numbers: factors rounded outward to units of 2^-28, an interval
-- mirrored at zero, and the least product of two ends. Assumes nothing.
use Rattle.std.specs.Prelude.{◌^◌, ◌≡◌, ℤ, neg_ℤ, ◌*ℤ◌}
use Rattle.fixed.specs.declared.Log.{Log}
use Rattle.fixed.specs.FloorAndCeiling.{floor_z, ceil_z, min_z}
use Rattle.fixed.specs.Logs.{Small}

pub record Coarse (a r : Log) : Type 0 where
  pub lower : r.lo ≡ floor_z a.lo 4
  pub upper : r.hi ≡ ceil_z a.hi 4

pub record Mirror (a r : Log) : Type 0 where
  pub lower : r.lo ≡ neg_ℤ a.hi
  pub upper : r.hi ≡ neg_ℤ a.lo

pub record Pairs (a b : Log) : Type 0 where
  pub left : Small a (2 ^ 31)
  pub right : Small b (2 ^ 31)

abbrev pub lowest_z : Log → Log → ℤ
lowest_z a b = min_z (min_z (a.lo *ℤ b.lo) (a.lo *ℤ b.hi)) (min_z (a.hi *ℤ b.lo) (a.hi *ℤ b.hi))
