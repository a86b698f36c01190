-- A signed number's division by a positive number rounded downward and upward, and the smaller of two; its two parts are `signed`'s.
-- Assumes nothing.
use Rattle.std.specs.Prelude.{ℕ, ◌/◌, cond, ℤ, pos, negsuc, neg_ℤ}
use Rattle.std.specs.Int.Signed.{lt_z}
pub use Rattle.signed.specs.TwoParts.{up, dn}

-- downward, also below zero: -(a + 1) becomes -(a / d + 1)
abbrev pub floor_z : ℤ → ℕ → ℤ
floor_z (pos a) d = pos (a / d)
floor_z (negsuc a) d = negsuc (a / d)

-- upward: downward on the other side of zero
abbrev pub ceil_z : ℤ → ℕ → ℤ
ceil_z z d = neg_ℤ (floor_z (neg_ℤ z) d)

-- the smaller of two
abbrev pub min_z : ℤ → ℤ → ℤ
min_z x y = cond (lt_z x y) x y
