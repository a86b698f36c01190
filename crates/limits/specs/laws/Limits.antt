-- Laws of the test that a number lies within its values. Assumes nothing.
use Rattle.std.specs.Prelude.{ℕ, ◌≤◌, ◌≡◌, false}
use Rattle.std.proofs.Common.{le-leb}
use Rattle.std.proofs.lemmas.Bool.{not-false}
use Rattle.hexadecimals.specs.laws.Within.{within_true}
use Rattle.limits.specs.Tests.{outside}

pub inside : (least most x : ℕ) → outside least most x ≡ false → (least ≤ x) × (x ≤ most)
inside least most x h = within_true least most x (not-false _ h)

pub not_outside : (least most x : ℕ) → least ≤ x → x ≤ most → outside least most x ≡ false
not_outside least most x a b = simp (le-leb least x a, le-leb x most b)
