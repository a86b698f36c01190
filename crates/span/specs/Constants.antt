-- For the callers: a coefficient n/d written as a span of the source, lo and hi in 2^-k, one unit apart at most. Assumes nothing.
use Rattle.std.specs.Prelude.{◌≡◌, refl, ℕ, ◌+◌, ◌*◌, ◌^◌, ◌≤◌, ◌<◌}
use Rattle.std.proofs.Common.{mul-le-mul_right, arith}
use Rattle.exact.specs.Fraction.{Ratio, of_ratio}
use Rattle.exact.specs.Holding.{◌∈◌}
use Rattle.span.specs.Spans.{unit, units, hull, fraction, Normal, Constant}
use Rattle.span.specs.Powers.{powers, shared}

pub scaled_by_lem : (m k e : ℕ) → k + e ≡ 1024 → m * 2 ^ k * 2 ^ e ≡ m * unit
unfolding unit
scaled_by_lem m k e h = shared m k e 1024 h

pub unit_by : (k e : ℕ) → k + e ≡ 1024 → 2 ^ k * 2 ^ e ≡ unit
unfolding unit
unit_by k e h = powers k e 1024 h

-- n/d between lo and hi in 2^-k
between : (n d : ℕ) (z : 0 < d) (lo hi e k : ℕ) → e + k ≡ 1024 → lo * d ≤ n * 2 ^ k → n * 2 ^ k ≤ hi * d
    → fraction n d z ∈ hull (record { lo = lo; hi = hi; e = e })
unfolding hull units fraction
between n d z lo hi e k h low high =
    let one : n * 2 ^ k * 2 ^ e ≡ n * unit = scaled_by_lem n k e (omega arith) in
    record {
      above = record { cross = omega (arith, mul-le-mul_right (2 ^ e) low) };
      below = record { cross = omega (arith, mul-le-mul_right (2 ^ e) high) };
    }

pub constant : (n d : ℕ) (z : 0 < d) (lo hi e k : ℕ) → e + k ≡ 1024 → lo * d ≤ n * 2 ^ k → n * 2 ^ k ≤ hi * d
    → Normal (record { lo = lo; hi = hi; e = e }) → hi ≤ lo + 1 → Constant (fraction n d z) e (record { lo = lo; hi = hi; e = e })
constant n d z lo hi e k h low high m o =
    record { normal = m; holds = between n d z lo hi e k h low high; width = record { narrow = omega arith }; exponent = refl }

-- the same of a fraction q, with all that is to be tested in one record
pub record Between (q : Ratio) (lo hi e k : ℕ) : Type 0 where
  pub scale : e + k ≡ 1024
  pub below : lo * q.den ≤ q.num * 2 ^ k
  pub above : q.num * 2 ^ k ≤ hi * q.den
  pub close : hi ≤ lo + 1
  pub least : 2 ^ 30 ≤ hi
  pub most : hi ≤ 2 ^ 31
  pub ordered : lo ≤ hi

pub coefficient : (q : Ratio) (lo hi e k : ℕ) → Between q lo hi e k → Constant (of_ratio q) e (record { lo = lo; hi = hi; e = e })
unfolding of_ratio fraction
coefficient q lo hi e k b =
    constant q.num q.den q.positive lo hi e k b.scale b.below b.above (record { least = b.least; most = b.most; ordered = b.ordered }) b.close
