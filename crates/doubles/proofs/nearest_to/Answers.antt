-- `doubles::nearest_to` meets its contract: both casts lose nothing, and the division rounds once. Assumes nothing.
-- a scale is a double
use Prim.Native.Nat.{ℕ, ◌^◌, ◌≤◌}
use native.Mathlib.Nat.{le_trans}
use lib.Dec.{lit≤}
use Rattle.doubles.specs.laws.Quotient.{quotient_is}
use Rattle.doubles.proofs.nearest_to.Goals as goal

small : {scale : ℕ} → scale ≤ 1000 → scale ≤ 2 ^ 53
small h = le_trans h (lit≤ tt)

pub returns : goal.returns
returns c =
    quotient_is c.args.scale c.args.n c.requires.0 (small c.requires.1) c.requires.2
