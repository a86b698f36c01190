-- What the private steps promise: the one rounding, the shifts, and the pairs that are already aligned. Assumes nothing.
use Rattle.std.specs.Prelude.{ℕ, ◌+◌, ◌*◌, ◌^◌, ◌≤◌, ◌<◌, ◌≡◌}
use Rattle.span.specs.declared.Span.{Span}
use Rattle.span.specs.Spans.{Normal, Rel, Width, Summands}

-- The one rounding

-- the upper end's highest set bit is bit 30 + s
pub record Cuttable (lo hi e s : ℕ) : Type 0 where
  pub ordered : lo ≤ hi
  pub least : 2 ^ (30 + s) ≤ hi
  pub most : hi < 2 ^ (31 + s)
  pub few : s ≤ 33
  pub room : e < 2 ^ 16

pub record Roundable (lo hi e : ℕ) : Type 0 where
  pub some : 0 < hi
  pub fits : hi < 2 ^ 64
  pub ordered : lo ≤ hi
  pub least : 31 ≤ e
  pub most : e < 2 ^ 16

-- the lower end is the floor and the upper the ceiling, at the exponent of the result
pub record Rounded (lo hi e : ℕ) (r : Span) : Type 0 where
  pub normal : Normal r
  pub below : r.lo * 2 ^ r.e ≤ lo * 2 ^ e
  pub lower_greatest : (m : ℕ) → m * 2 ^ r.e ≤ lo * 2 ^ e → m ≤ r.lo
  pub above : hi * 2 ^ e ≤ r.hi * 2 ^ r.e
  pub upper_least : (m : ℕ) → hi * 2 ^ e ≤ m * 2 ^ r.e → r.hi ≤ m
  pub width : (D : ℕ) → Rel lo hi D → Width r (D + 2)
  pub least : (k : ℕ) → 2 ^ k ≤ hi → e + k ≤ r.e + 30
  pub most : (k : ℕ) → hi < 2 ^ k → r.e + 31 ≤ e + k

-- Shifts, rounded downward and upward

pub record ShiftedDown (m d r : ℕ) : Type 0 where
  pub small : r ≤ m
  pub below : r * 2 ^ d ≤ m
  pub near : m < r * 2 ^ d + 2 ^ d

pub record ShiftedUp (m d r : ℕ) : Type 0 where
  pub small : r ≤ m
  pub above : m ≤ r * 2 ^ d
  pub near : r * 2 ^ d < m + 2 ^ d

-- Sums of spans whose exponents are in order

pub record Aligned (a b : Span) : Type 0 where
  pub summands : Summands a b
  pub greater : b.e ≤ a.e

-- Comparison: 2^d as far as mantissas of 31 bits can tell

pub record Ratio (d k : ℕ) : Type 0 where
  pub small : k ≤ 4
  pub below : k ≤ 2 ^ d
  pub exact : k < 4 → k ≡ 2 ^ d

pub record Compared (a b : Span) : Type 0 where
  pub left : Normal a
  pub right : Normal b
  pub greater : b.e ≤ a.e
