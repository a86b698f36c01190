-- The test `less` of fractions and the order of fractions. Assumes nothing.
use Rattle.std.specs.Prelude.{ℕ, ◌*◌, ◌≤◌, ◌≡◌, true, false, ltb}
use Rattle.std.proofs.Common.{arith, le-ltb, ltb-true, ltb-false}
use Rattle.exact.specs.Fraction.{Ratio, ◌≼◌, ◌≈◌}
use Rattle.exact.proofs.laws.Tests.{ltb_same}
use Rattle.exact.proofs.laws.Ratio.{≼_trans, to≼, from≼}
use Rattle.guidance.specs.Distances.{less}

-- not x < y: y ≤ x
pub least_of : (x y : Ratio) → less x y ≡ false → y ≼ x
unfolding less
least_of x y h = record { cross = ltb-false _ _ h }

pub not-less : (x y : Ratio) → y ≼ x → less x y ≡ false
unfolding less
not-less x y h = le-ltb _ _ h.cross

-- x < y: x ≤ y, and not y ≤ x
pub most_of : (x y : Ratio) → less x y ≡ true → x ≼ y
unfolding less
most_of x y h = omega (arith, ltb-true (x.num * y.den) (y.num * x.den) h)

pub less_strict : (x y : Ratio) → less x y ≡ true → y ≼ x → ⊥
unfolding less
less_strict x y h k = omega (arith, ltb-true (x.num * y.den) (y.num * x.den) h, k.cross)

pub less_same : (x y u v : Ratio) → (y ≼ x → v ≼ u) → (v ≼ u → y ≼ x) → less x y ≡ less u v
unfolding less
less_same x y u v f g = ltb_same (λ h. (f (record { cross = h })).cross) (λ h. (g (record { cross = h })).cross)

-- values alone count
pub less_value : (x y u v : Ratio) → x ≈ u → y ≈ v → less x y ≡ less u v
less_value x y u v e f =
    less_same x y u v (λ h. ≼_trans (from≼ f) (≼_trans h (to≼ e))) (λ h. ≼_trans (to≼ f) (≼_trans h (from≼ e)))

-- a comparison of whole numbers that says the same
pub less_words : (x y : Ratio) (m n : ℕ) → (y ≼ x → n ≤ m) → (n ≤ m → y ≼ x) → less x y ≡ ltb m n
unfolding less
less_words x y m n f g = ltb_same (λ h. f (record { cross = h })) (λ h. (g h).cross)
