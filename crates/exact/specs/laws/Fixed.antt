-- Bounds of a fraction in S-ths.
use Rattle.std.specs.Prelude.{ℕ, ◌*◌, ◌≤◌}
use Rattle.exact.specs.Fraction.{Ratio}

-- a/S ≤ x
pub record Lower (S a : ℕ) (x : Ratio) : Type 0 where
  pub bound : a * x.den ≤ x.num * S

-- x ≤ b/S
pub record Upper (S b : ℕ) (x : Ratio) : Type 0 where
  pub bound : x.num * S ≤ b * x.den
