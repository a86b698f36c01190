-- Whether a span lies below another, from a test on mantissas. Assumes nothing.
use Prim.Native.Nat.{ℕ, ◌+◌, ◌*◌, ◌^◌, ◌≤◌, ◌<◌}
use mathlib.Core.Path.{◌≡◌, refl, sym, ap}
use mathlib.Core.Bool.{false}
use native.Mathlib.Nat.{mul-le-mul_right, le_of_mul-le-mul_right, lt_of_mul-lt-mul_right}
use native.Mathlib.Omega.{arith}
use lib.Dec.{ltb}
use lib.Pow.{pow_pos, pow_mono}
use borrow.Author.Tests.{le-ltb}
use Rattle.exact.proofs.laws.Tests.{ltb_same}
use Rattle.span.specs.declared.Span.{Span}
use Rattle.span.specs.Spans.{Normal, below}
use Rattle.span.specs.Rounding.{ShiftedDown}
use Rattle.span.specs.Powers.{powers}

-- h and l are mantissas, A and B their powers of two, P = B/A, and m = h/P rounded downward

above : (h l A B : ℕ) → 2 ^ 30 ≤ h → l ≤ 2 ^ 31 → 2 * B ≤ A → l * B ≤ h * A
above h l A B a b t = omega (arith, mul-le-mul_right B b, mul-le-mul_right (2 * B) a, mul-le-mul_right h t)

scaled : (h l m P A B : ℕ) → P * A ≡ B → m * P ≤ h → l ≤ m → l * B ≤ h * A
scaled h l m P A B e i j =
    let k : l * P ≤ h = omega (arith, i, mul-le-mul_right P j) in
    omega (arith, mul-le-mul_right A k, ap (λ (x : ℕ). l * x) e)

unscaled : (h l m P A B : ℕ) → P * A ≡ B → 0 < A → h < m * P + P → l * B ≤ h * A → l ≤ m
unscaled h l m P A B e z i j =
    let k : l * P ≤ h = le_of_mul-le-mul_right {k = A} (omega (arith, j, ap (λ (x : ℕ). l * x) e)) z in
    let s : l < m + 1 = lt_of_mul-lt-mul_right P (omega (arith, k, i)) in
    omega (arith, s)

module _ {a b : Span} (n : Normal a) (o : Normal b) where
  pub greater_exponent : b.e < a.e → false ≡ below a b
  unfolding below
  greater_exponent l =
      let twice : 2 ^ (1 + b.e) ≤ 2 ^ a.e = pow_mono (omega arith) in
      sym
      (le-ltb (a.hi * 2 ^ a.e) (b.lo * 2 ^ b.e)
      (above a.hi b.lo (2 ^ a.e) (2 ^ b.e) n.least (omega (arith, o.ordered, o.most)) (omega (arith, twice, powers 1 b.e (1 + b.e) refl))))

  pub by_mantissas : {m d : ℕ} → d + a.e ≡ b.e → ShiftedDown a.hi d m → ltb m b.lo ≡ below a b
  unfolding below
  by_mantissas {m} {d} e s =
      let both = powers d a.e b.e e in
      ltb_same (scaled a.hi b.lo m (2 ^ d) (2 ^ a.e) (2 ^ b.e) both s.below)
      (unscaled a.hi b.lo m (2 ^ d) (2 ^ a.e) (2 ^ b.e) both (pow_pos a.e) s.near)
