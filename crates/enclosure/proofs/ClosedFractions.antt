-- Comparisons of closed fractions, computed by the checker, and a span's ends in 2^-k. Assumes nothing.
use mathlib.Core.Path.{◌≡◌}
use mathlib.Core.Bool.{Bool}
use Prim.Native.Nat.{ℕ, ◌+◌, ◌*◌, ◌^◌}
use lib.Dec.{T, leb, leb→le}
use Rattle.exact.specs.Fraction.{Ratio, ◌≼◌, ◌≈◌}
use Rattle.span.specs.Spans.{unit, unit_positive}
use Rattle.span.specs.Powers.{shared}
use Rattle.enclosure.specs.ExpSteps.{binary}

-- x ≼ y, as a test
abbrev pub below : Ratio → Ratio → Bool
below x y = leb (x.num * y.den) (y.num * x.den)

pub tested : (x y : Ratio) → T (below x y) → x ≼ y
tested x y t = record { cross = leb→le _ _ t }

-- m·2^e units are m/2^k
pub as_binary : (m e k : ℕ) → e + k ≡ 1024 → record { num = m * 2 ^ e; den = unit; positive = unit_positive } ≈ binary m k
unfolding unit binary
as_binary m e k h = record { cross = shared m e k 1024 h }
