-- What ln, e^ and powers of an interval promise: for every point of the argument and every N from `enough` on, the N-th ends of the value there
-- lie in the result, whose width follows from the argument's. The ends are open but for that. Assumes nothing.
use Rattle.std.specs.Prelude.{ℕ, ◌+◌, ◌*◌, ◌^◌, ◌≤◌, ◌<◌, ◌≡◌}
use Rattle.exact.specs.Fraction.{Ratio, of_ratio, Frac, Positive}
use Rattle.exact.specs.Formula.{Formula, power_of}
use Rattle.exact.specs.Holding.{◌∈◌}
use Rattle.span.specs.declared.Span.{Span}
use Rattle.span.specs.Spans.{hull, Normal, Width}
use Rattle.span.specs.Enclosing.{Encloses}
use Rattle.span.specs.Unary.{LnWithin, ExpWithin}
use Rattle.fixed.specs.declared.Log.{Log}
use Rattle.fixed.specs.Logs.{up, dn, bracket, Ordered, Narrow}

-- the N from which on the library holds
abbrev pub enough : ℕ
enough = 12000

-- ln

-- k ln 2 and 3/4 in 2^-30, rounded upward: how far a logarithm comes within k octaves
abbrev pub reach : ℕ → ℕ
reach k = k * 744261118 + 3 * 2 ^ 28

-- a normal span up to 2^1024, its lower mantissa at least 2^29: what `divisor` says of every narrow one
pub record Loggable (t : Span) : Type 0 where
  pub normal : Normal t
  pub far : 2 ^ 29 ≤ t.lo
  pub most : t.e ≤ 2017

-- the absolute width is the argument's relative width and 18 units; k counts octaves, below 1 in `least` and above it in `most`
pub record Logarithm (t : Span) (r : Log) : Type 0 where
  pub positive : Positive (hull t).lo
  pub holds : (p : Frac) → p ∈ hull t → (z : Positive p) (n : ℕ) → enough ≤ n → LnWithin p z n (bracket r)
  pub ordered : Ordered r
  pub width : (D : ℕ) → Width t D → D ≤ 2 ^ 15 → Narrow r (D + 18)
  pub least : (D : ℕ) → Width t D → D ≤ 2 ^ 15 → (k : ℕ) → 993 ≤ t.e + k → dn r.lo ≤ reach k + D + 18
  pub most : (k : ℕ) → t.e ≤ 994 + k → up r.hi ≤ reach k + 15

-- e^

-- ln 2 in 2^-30, rounded downward
abbrev pub octave : ℕ
octave = 744261117

-- an interval within -512 and 512, no wider than a quarter
pub record Exponent (y : Log) : Type 0 where
  pub ordered : Ordered y
  pub narrow : Narrow y (2 ^ 28)
  pub least : dn y.lo < 512 * 2 ^ 30
  pub most : up y.hi < 512 * 2 ^ 30

-- the relative width is the argument's absolute width and 30 units; k counts octaves as above
pub record Exponential (y : Log) (r : Span) : Type 0 where
  pub normal : Normal r
  pub holds : (p : Frac) → p ∈ bracket y → (n : ℕ) → enough ≤ n → ExpWithin p n (hull r)
  pub width : (D : ℕ) → Narrow y D → Width r (D + 30)
  pub least : (k : ℕ) → dn y.hi ≤ k * octave → 992 ≤ r.e + k
  pub most : (k : ℕ) → up y.hi ≤ k * octave → r.e ≤ 996 + k

-- t^(p/6)

-- a span within 100 octaves of 1, within 2^-20 of itself
pub record Powerable (t : Span) (p : ℕ) : Type 0 where
  pub normal : Normal t
  pub narrow : Width t (2 ^ 10)
  pub least : 893 ≤ t.e
  pub most : t.e ≤ 1094
  pub sixths : p ≤ 6

-- for a of the value p/6; the relative width is p/6 of the logarithm's and 31 units; k counts the argument's octaves and i the result's
pub record SixthPower (t : Span) (p : ℕ) (r : Span) : Type 0 where
  pub normal : Normal r
  pub encloses : (a : Ratio) → a.num * 6 ≡ p * a.den → (x : Formula) (n : ℕ) → enough ≤ n → Encloses t x n → Encloses r (power_of (of_ratio a) x) n
  pub width : (D U : ℕ) → Width t D → D ≤ 2 ^ 10 → (D + 18) * p ≤ U * 6 → Width r (U + 31)
  pub least : (k i : ℕ) → 993 ≤ t.e + k → t.e ≤ 994 + k → (reach k + 2 ^ 10 + 18) * p ≤ i * octave * 6 → 992 ≤ r.e + i
  pub most : (k i : ℕ) → 993 ≤ t.e + k → t.e ≤ 994 + k → (reach k + 2 ^ 10 + 18) * p ≤ i * octave * 6 → r.e ≤ 996 + i
