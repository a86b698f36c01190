-- What a `Span` stands for, and what each operation promises of it: that it holds every result of what its arguments hold
-- (over the fractions of the theory), how narrow it is, and where its exponent lies. `lower_greatest` and `upper_least` say that
-- no span of that exponent is narrower; elsewhere the ends are open but for the width. Assumes nothing.
use Rattle.std.specs.Prelude.{ℕ, ◌+◌, ◌*◌, ◌-◌, ◌^◌, ◌≤◌, ◌<◌, ◌≡◌, Bool, ltb}
use Rattle.std.proofs.Common.{pow_pos, arith}
use Rattle.exact.specs.Fraction.{Frac, Positive, ◌⊞◌, ◌⊟◌, ◌⊠◌, inverse}
use Rattle.exact.specs.Bracket.{smaller, Bracket}
use Rattle.exact.specs.Holding.{◌∈◌}
use Rattle.span.specs.declared.Span.{Span}

-- one, in units of 2^-1024; shut, so that omega takes it for an unknown and nothing computes it
unfoldable pub unit : ℕ
unit = 2 ^ 1024

pub unit_positive : 0 < unit
unfolding unit
unit_positive = pow_pos 1024

-- v units, as a fraction
unfoldable pub units : ℕ → Frac
units v = record { plus = v; minus = 0; den = unit; positive = unit_positive }

-- the bracket that a span stands for: `p ∈ hull a` says that the fraction p lies in a
unfoldable pub hull : Span → Bracket
hull a = record { lo = units (a.lo * 2 ^ a.e); hi = units (a.hi * 2 ^ a.e) }

unfoldable pub whole_f : ℕ → Frac
whole_f n = record { plus = n; minus = 0; den = 1; positive = omega arith }

-- n/d
unfoldable pub fraction : (n d : ℕ) → 0 < d → Frac
fraction n d z = record { plus = n; minus = 0; den = d; positive = z }

-- an upper mantissa of 31 bits, both ends in: one that is rounded up needs no second step
pub record Normal (a : Span) : Type 0 where
  pub least : 2 ^ 30 ≤ a.hi
  pub most : a.hi ≤ 2 ^ 31
  pub ordered : a.lo ≤ a.hi

-- the width of an interval, at most D in 2^-30 of its upper end: (hi - lo)·2^30 ≤ D·hi
pub record Rel (lo hi D : ℕ) : Type 0 where
  pub narrow : hi * 2 ^ 30 ≤ lo * 2 ^ 30 + D * hi

abbrev pub Width : Span → ℕ → Type 0
Width a D = Rel a.lo a.hi D

-- Whole numbers

pub record Whole (n : ℕ) (r : Span) : Type 0 where
  pub normal : Normal r
  pub holds : whole_f n ∈ hull r
  pub lower_greatest : (m : ℕ) → m * 2 ^ r.e ≤ n * unit → m ≤ r.lo
  pub upper_least : (m : ℕ) → n * unit ≤ m * 2 ^ r.e → r.hi ≤ m
  pub width : Width r 2
  pub least : (k : ℕ) → 2 ^ k ≤ n → 994 + k ≤ r.e
  pub most : (k : ℕ) → n < 2 ^ k → r.e ≤ 993 + k

-- Fractions n/d of whole numbers above 0; i and j bound them by powers of two

pub record FractionOf (n d : ℕ) (r : Span) : Type 0 where
  pub normal : Normal r
  pub holds : (z : 0 < d) → fraction n d z ∈ hull r
  pub width : Width r 8
  pub least : (i j : ℕ) → 2 ^ i ≤ n → d < 2 ^ j → 994 + i ≤ r.e + j
  pub most : (i j : ℕ) → n < 2 ^ i → 2 ^ j ≤ d → r.e + j ≤ 995 + i

-- Constants: c in a span of the exponent e

pub record Constant (c : Frac) (e : ℕ) (r : Span) : Type 0 where
  pub normal : Normal r
  pub holds : c ∈ hull r
  pub width : Width r 1
  pub exponent : r.e ≡ e

-- Products

pub record Factors (a b : Span) : Type 0 where
  pub left : Normal a
  pub right : Normal b
  pub least : 1055 ≤ a.e + b.e
  pub most : a.e + b.e < 2 ^ 16

pub record Product (a b r : Span) : Type 0 where
  pub normal : Normal r
  pub holds : (p q : Frac) → p ∈ hull a → q ∈ hull b → p ⊠ q ∈ hull r
  pub lower_greatest : (m : ℕ) → m * 2 ^ r.e * unit ≤ a.lo * 2 ^ a.e * (b.lo * 2 ^ b.e) → m ≤ r.lo
  pub upper_least : (m : ℕ) → a.hi * 2 ^ a.e * (b.hi * 2 ^ b.e) ≤ m * 2 ^ r.e * unit → r.hi ≤ m
  pub width : (C D : ℕ) → Width a C → Width b D → Width r (C + D + 2)
  pub least : a.e + b.e ≤ r.e + 994
  pub most : r.e + 992 ≤ a.e + b.e

-- Quotients; a divisor's lower end is at least half the least upper end

pub record Divisible (a b : Span) : Type 0 where
  pub left : Normal a
  pub right : Normal b
  pub divisor : 2 ^ 29 ≤ b.lo
  pub least : b.e ≤ a.e + 961
  pub most : a.e < 2 ^ 15

pub record Quotient (a b r : Span) : Type 0 where
  pub normal : Normal r
  pub divisor : Positive (hull b).lo
  pub holds : (p q : Frac) → p ∈ hull a → q ∈ hull b → (h : Positive q) → p ⊠ inverse q h ∈ hull r
  pub lower_greatest : (m : ℕ) → m * 2 ^ r.e * (b.hi * 2 ^ b.e) ≤ a.lo * 2 ^ a.e * unit → m ≤ r.lo
  pub upper_least : (m : ℕ) → a.hi * 2 ^ a.e * unit ≤ m * 2 ^ r.e * (b.lo * 2 ^ b.e) → r.hi ≤ m
  pub width : (C D : ℕ) → Width a C → Width b D → Width r (C + D + 4)
  pub least : a.e + 993 ≤ r.e + b.e
  pub most : r.e + b.e ≤ a.e + 996

-- by a whole number, as an interval of it
pub record DivisibleBy (a : Span) (n : ℕ) : Type 0 where
  pub above : 0 < n
  pub divisible : (b : Span) → Whole n b → Divisible a b

pub record WholeQuotient (a : Span) (n : ℕ) (r : Span) : Type 0 where
  pub divisor : Span
  pub whole : Whole n divisor
  pub quotient : Quotient a divisor r

-- Sums

pub record Summands (a b : Span) : Type 0 where
  pub left : Normal a
  pub right : Normal b
  pub least_left : 31 ≤ a.e
  pub least_right : 31 ≤ b.e
  pub most_left : a.e < 2 ^ 16
  pub most_right : b.e < 2 ^ 16

pub record Sum (a b r : Span) : Type 0 where
  pub normal : Normal r
  pub holds : (p q : Frac) → p ∈ hull a → q ∈ hull b → p ⊞ q ∈ hull r
  pub width : (D : ℕ) → Width a D → Width b D → Width r (D + 4)
  pub least_left : a.e ≤ r.e
  pub least_right : b.e ≤ r.e
  -- the greater of the two and 2 more, in words that omega reads
  pub most : r.e ≤ a.e + (b.e - a.e) + 2

-- Differences; what is taken away is at most three quarters, so that a fourth is left and the width grows by no more than that

pub record Subtractable (a b : Span) : Type 0 where
  pub left : Normal a
  pub right : Normal b
  pub share : 4 * (b.hi * 2 ^ b.e) ≤ 3 * (a.lo * 2 ^ a.e)
  pub least : 31 ≤ a.e
  pub most : a.e < 2 ^ 16

pub record Difference (a b r : Span) : Type 0 where
  pub normal : Normal r
  pub holds : (p q : Frac) → p ∈ hull a → q ∈ hull b → p ⊟ q ∈ hull r
  pub width : (C D : ℕ) → Width a C → Width b D → Width r (4 * (C + D) + 10)
  pub least : a.e ≤ r.e + 2
  pub most : r.e ≤ a.e + 1

-- The smaller of two; `a - (a - b)` is that of two numbers, in words that omega reads

pub record Smaller (a b r : Span) : Type 0 where
  pub normal : Normal r
  pub holds : (p q : Frac) → p ∈ hull a → q ∈ hull b → smaller p q ∈ hull r
  pub width : (D : ℕ) → Width a D → Width b D → Width r D
  pub exponent : r.e ≡ a.e - (a.e - b.e)

-- Comparison: a lies wholly below b

unfoldable pub below : (a b : Span) → Bool
below a b = ltb (a.hi * 2 ^ a.e) (b.lo * 2 ^ b.e)

-- The whole numbers around a span: the greatest that is not above the lower end, and the least that is not below the upper end

pub record Floor (a : Span) (n : ℕ) : Type 0 where
  pub below : n * unit ≤ a.lo * 2 ^ a.e
  pub near : a.lo * 2 ^ a.e < n * unit + unit
  pub small : n ≤ a.lo

pub record Ceiling (a : Span) (n : ℕ) : Type 0 where
  pub above : a.hi * 2 ^ a.e ≤ n * unit
  pub near : n * unit < a.hi * 2 ^ a.e + unit
  pub small : n ≤ a.hi
