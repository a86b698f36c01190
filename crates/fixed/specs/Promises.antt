-- What each operation on intervals asks and what it promises: that its result holds every result of what its arguments hold (over the
-- fractions of the theory), how narrow it is, and how large its ends are. The ends are open but for that. Assumes nothing.
use Rattle.std.specs.Prelude.{ℕ, ◌+◌, ◌*◌, ◌^◌, ◌≤◌, ◌<◌, ◌≡◌}
use Rattle.exact.specs.Fraction.{Frac, ◌⊞◌, ◌⊟◌, ◌⊠◌}
use Rattle.exact.specs.Holding.{◌∈◌}
use Rattle.fixed.specs.declared.Log.{Log}
use Rattle.fixed.specs.Logs.{bracket, Ordered, Narrow, Small}

-- Constants: the fraction c, in an interval of at most one unit

pub record LogConstant (c : Frac) (r : Log) : Type 0 where
  pub ordered : Ordered r
  pub holds : c ∈ bracket r
  pub width : Narrow r 1

-- Sums and differences

pub record Summands (a b : Log) : Type 0 where
  pub left : Ordered a
  pub right : Ordered b
  pub small_left : Small a (2 ^ 61)
  pub small_right : Small b (2 ^ 61)

pub record LogSum (a b r : Log) : Type 0 where
  pub ordered : Ordered r
  pub holds : (p q : Frac) → p ∈ bracket a → q ∈ bracket b → p ⊞ q ∈ bracket r
  pub width : (C D : ℕ) → Narrow a C → Narrow b D → Narrow r (C + D)
  pub small : (L M : ℕ) → Small a L → Small b M → Small r (L + M)

pub record LogDifference (a b r : Log) : Type 0 where
  pub ordered : Ordered r
  pub holds : (p q : Frac) → p ∈ bracket a → q ∈ bracket b → p ⊟ q ∈ bracket r
  pub width : (C D : ℕ) → Narrow a C → Narrow b D → Narrow r (C + D)
  pub small : (L M : ℕ) → Small a L → Small b M → Small r (L + M)

-- Products of numbers from -8 to 8: the factors are first rounded outward to four units, so that their products fit

pub record LogFactors (a b : Log) : Type 0 where
  pub left : Ordered a
  pub right : Ordered b
  pub small_left : Small a (2 ^ 33)
  pub small_right : Small b (2 ^ 33)

pub record LogProduct (a b r : Log) : Type 0 where
  pub ordered : Ordered r
  pub holds : (p q : Frac) → p ∈ bracket a → q ∈ bracket b → p ⊠ q ∈ bracket r
  pub width : (M C D W : ℕ) → Small a M → Small b M → Narrow a C → Narrow b D → (M + 4) * (C + D + 16) ≤ W * 2 ^ 30 → Narrow r (W + 1)
  pub small : (M N : ℕ) → Small a M → Small b M → (M + 4) * (M + 4) ≤ N * 2 ^ 30 → Small r N

-- Multiples by a constant p / d: for every fraction c of that value

-- the value of c is p / d
pub record Value (c : Frac) (p d : ℕ) : Type 0 where
  pub equal : c.plus * d ≡ p * c.den + c.minus * d

pub record Scalable (p : ℕ) (a : Log) : Type 0 where
  pub left : Ordered a
  pub small : Small a (2 ^ 40)
  pub factor : p < 2 ^ 20

pub record Scaled (p d : ℕ) (a r : Log) : Type 0 where
  pub ordered : Ordered r
  pub holds : (c q : Frac) → Value c p d → q ∈ bracket a → c ⊠ q ∈ bracket r
  pub width : (W U : ℕ) → Narrow a W → W * p ≤ U * d → Narrow r (U + 1)
  pub small : (M N : ℕ) → Small a M → M * p ≤ N * d → Small r N
