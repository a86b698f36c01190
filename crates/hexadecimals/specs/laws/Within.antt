-- The law of the test that a number lies within its values. Assumes nothing.
use Rattle.std.specs.Prelude.{ℕ, ◌≤◌, ◌≡◌, true, leb}
use Rattle.std.proofs.Common.{leb-true}
use Rattle.exact.proofs.laws.Tests.{both_true}
use Rattle.hexadecimals.specs.Digits.{within}

pub within_true : (least most x : ℕ) → within least most x ≡ true → (least ≤ x) × (x ≤ most)
within_true least most x h = let p = both_true (leb least x) (leb x most) h in (leb-true least x p.0, leb-true x most p.1)
