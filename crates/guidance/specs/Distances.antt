-- The reduced distance Rx = r/(E/P0)^(1/3) and its exact comparisons (document 01, "From frame to speed range").
-- Rx is compared by its cube, r³P0/E; both sides are multiplied by E, which is above 0 in every accepted case.
use Rattle.std.specs.Prelude.{ℕ, ◌*◌, Bool, ltb}
use Rattle.std.proofs.Common.{arith}
use Rattle.exact.specs.Fraction.{Ratio, whole, ◌⊗◌, power}
use Rattle.guidance.specs.declared.Case.{Case}
use Rattle.guidance.specs.Clouds.{over, energy}

-- x < y
unfoldable pub less : Ratio → Ratio → Bool
less x y = ltb (x.num * y.den) (y.num * x.den)

-- r in metres
unfoldable pub metres : Case → Ratio
metres c = over c.distance 100 (omega arith)

-- r³P0, which stands to E as Rx³ to 1
unfoldable pub cubed : (air : ℕ) → Case → Ratio
cubed air c = power (metres c) 3 ⊗ whole air

-- Rx is below the distance whose cube is t; Rx is above it
unfoldable pub nearer : (t : Ratio) (air : ℕ) → Case → Bool
nearer t air c = less (cubed air c) (t ⊗ energy c)

unfoldable pub farther : (t : Ratio) (air : ℕ) → Case → Bool
farther t air c = less (t ⊗ energy c) (cubed air c)

-- the cubes of 0.2, 0.25, 0.34 and 24
unfoldable pub cube02 : Ratio
cube02 = over 8 1000 (omega arith)

unfoldable pub cube025 : Ratio
cube025 = over 15625 1000000 (omega arith)

unfoldable pub cube034 : Ratio
cube034 = over 39304 1000000 (omega arith)

unfoldable pub cube24 : Ratio
cube24 = whole 13824
