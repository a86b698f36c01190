-- Differences of signed numbers that are from 0 up. Assumes nothing.
use mathlib.Core.Path.{◌≡◌, ap}
use Prim.Native.Nat.{ℕ, ◌+◌}
use native.Mathlib.Omega.{arith}
use lib.IntN.{ℤ, pos, negsuc, ◌-ℤ◌}
use Rattle.fixed.specs.Logs.{up, dn}
use Rattle.fixed.specs.SignedLaws.{minus_parts}

exactly : (z : ℤ) (d : ℕ) → up z ≡ dn z + d → z ≡ pos d
exactly (pos n) d h = ap pos (omega arith)
exactly (negsuc n) d h = absurd (omega arith)

pub difference : (x y : ℤ) (d : ℕ) → up x + dn y ≡ up y + dn x + d → x -ℤ y ≡ pos d
difference x y d h = exactly (x -ℤ y) d (omega (arith, minus_parts x y))
