-- What the private steps of e^ promise: for a fraction y from 0 up in the terms of `Least` and `Most`, which bound all sums, with no N
-- in them; then at a signed point for every N from `enough` on. Assumes nothing.
use Rattle.std.specs.Prelude.{◌≡◌, ℕ, ◌+◌, ◌*◌, ◌^◌, ◌≤◌}
use Rattle.std.proofs.Common.{pow_pos}
use Rattle.exact.specs.Fraction.{Ratio, ◌≼◌, whole, ◌⊕◌, ◌⊗◌, power}
use Rattle.exact.specs.laws.Width.{half}
use Rattle.exact.specs.LnExp.{exp_lower_at, exp_upper_at}
use Rattle.exact.specs.laws.Reduction.{Most, Least, LowerEnd, UpperEnd}
use Rattle.span.specs.declared.Span.{Span}
use Rattle.span.specs.Spans.{unit, unit_positive, Normal, Width}
use Rattle.fixed.specs.Logs.{fixed}
use Rattle.enclosure.specs.Promises.{enough, octave}

-- the ends of a span, as fractions from 0 up
unfoldable pub low : Span → Ratio
low a = record { num = a.lo * 2 ^ a.e; den = unit; positive = unit_positive }

unfoldable pub high : Span → Ratio
high a = record { num = a.hi * 2 ^ a.e; den = unit; positive = unit_positive }

-- m / 2^b
unfoldable pub binary : ℕ → ℕ → Ratio
binary m b = record { num = m; den = 2 ^ b; positive = pow_pos b }

-- a factor that an upper end leaves for the remainder of the N-th bracket: 1 + 2^-33
unfoldable pub spare : Ratio
spare = whole 1 ⊕ power half 33

-- e^y lies in a: its lower end is reached by the sum of t terms, and a bound of all sums, times w, is within its upper end.
-- D bounds the width in 2^-30, h the exponent
pub record ExpIn (w : Ratio) (t D h : ℕ) (y : Ratio) (a : Span) : Type 0 where
  pub normal : Normal a
  pub width : Width a D
  pub least : 994 ≤ a.e
  pub most : a.e ≤ h
  pub lower : Least t y (low a)
  pub bound : Ratio
  pub upper : Most y bound
  pub room : bound ⊗ w ≼ high a

-- r contains the N-th ends of e^((a - b) / 2^30), for every N from `enough` on; k counts octaves
pub record ExpAt (a b : ℕ) (r : Span) : Type 0 where
  pub normal : Normal r
  pub width : Width r 28
  pub least : (k : ℕ) → b ≤ k * octave → 992 ≤ r.e + k
  pub most : (k : ℕ) → a ≤ k * octave → r.e ≤ 996 + k
  pub lower : (n : ℕ) → enough ≤ n → LowerEnd (exp_lower_at (fixed a b) n) (low r)
  pub upper : (n : ℕ) → enough ≤ n → UpperEnd (exp_upper_at (fixed a b) n) (high r)

-- the lower end of x times 1 - d/2^30, and one or two units less
pub record Lowered (x : Span) (d : ℕ) (r : Span) : Type 0 where
  pub hi : r.hi ≡ x.hi
  pub e : r.e ≡ x.e
  pub below : r.lo * 2 ^ 30 + x.lo * d + 1 ≤ x.lo * 2 ^ 30
  pub near : x.lo * 2 ^ 30 ≤ r.lo * 2 ^ 30 + x.lo * d + 2 * 2 ^ 30
