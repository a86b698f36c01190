-- How large a signed number is, by its parts.
use Rattle.std.specs.Prelude.{ℕ, ◌≤◌, ℤ}
use Rattle.signed.specs.TwoParts.{up, dn}

-- |z| ≤ M
pub record Magnitude (M : ℕ) (z : ℤ) : Type 0 where
  pub plus : up z ≤ M
  pub minus : dn z ≤ M
