-- Bounds of products. Assumes nothing.
use Prim.Native.Nat.{ℕ, ◌*◌, ◌^◌, ◌≤◌, ◌<◌}
use native.Mathlib.Nat.{mul-le-mul}
use native.Mathlib.Omega.{arith}
use Rattle.std.proofs.lemmas.Bool.Decides.{nat_tests}

-- two words, in two
pub words_fit : (a b : ℕ) → a < 2 ^ 64 → b < 2 ^ 64 → a * b < 2 ^ 128
words_fit a b h k = omega (arith, mul-le-mul {n₁ = a} {m₁ = b} {n₂ = 18446744073709551615} {m₂ = 18446744073709551615} (omega arith) (omega arith))

pub cube_most : (x : ℕ) → x ≤ 1000000 → x * x * x ≤ 1000000000000000000
cube_most x h = omega (arith, mul-le-mul (mul-le-mul h h) h)

pub air_parts_most : (air p : ℕ) → air ≤ 110000 → p ≤ 50000 → air * p ≤ 5500000000
air_parts_most air p h k = omega (arith, mul-le-mul h k)

-- What the two sides of a comparison are worked by
pub ruleset sides = (nat_tests, words_fit, cube_most, air_parts_most)
