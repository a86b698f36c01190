-- The sums of items 1 and 2, at fractions from 0 up: ln f in u = (f - 1)/(f + 1), the reduction of t to f, and e^y.
use Rattle.std.specs.Prelude.{ℕ, zero, suc, ◌*◌, ◌^◌, ◌<◌}
use Rattle.std.proofs.Math.Decide.{dec_le}
use Rattle.std.proofs.Common.{arith}
use Rattle.exact.specs.Fraction.{Ratio, Above0, whole, ◌⊕◌, ◌⊗◌, ◌⊖◌, recip, power, sum}
use Rattle.exact.specs.laws.Positive.{odd_pos, two_pow_pos, factorial_pos, above_suc}
unfoldable pub use Rattle.exact.specs.Fraction.{even, odd, factorial}

unfoldable pub one_over : (n : ℕ) → 0 < n → Ratio
one_over n h = record { num = 1; den = n; positive = h }

-- u^(2j+1)/(2j+1)
unfoldable pub ln_term : Ratio → ℕ → Ratio
ln_term u j = power u (odd j) ⊗ one_over (odd j) (odd_pos j)

-- 1 - u²
unfoldable pub gap : Ratio → Ratio
gap u = whole 1 ⊖ u ⊗ u

-- u^(2N+1)/((2N+1)(1 - u²))
unfoldable pub ln_tail : (u : Ratio) (n : ℕ) → Above0 (gap u) → Ratio
ln_tail u n h = power u (odd n) ⊗ (one_over (odd n) (odd_pos n) ⊗ recip (gap u) h)

-- item 1: twice the first N terms, and for the upper end twice the bound on the rest besides
unfoldable pub series_lower : Ratio → ℕ → Ratio
series_lower u n = whole 2 ⊗ sum (ln_term u) n

unfoldable pub series_upper : (u : Ratio) (n : ℕ) → Above0 (gap u) → Ratio
series_upper u n h = whole 2 ⊗ (sum (ln_term u) n ⊕ ln_tail u n h)

-- how often q can be doubled, n times at most, without passing p
unfoldable pub climb : ℕ → ℕ → ℕ → ℕ
climb zero q p = 0
climb (suc n) q p = elim (dec_le (2 * q) p) [ yes h ↦ suc (climb n (2 * q) p) | no h ↦ 0 ]

-- item 1: k, and then f, of t = 2^k·f with 1 ≤ f < 2, for t ≥ 1
unfoldable pub exponent : Ratio → ℕ
exponent t = climb t.num t.den t.num

unfoldable pub fraction : Ratio → Ratio
fraction t = t ⊗ one_over (2 ^ exponent t) (two_pow_pos (exponent t))

-- u = (f - 1)/(f + 1)
unfoldable pub argument : Ratio → Ratio
argument f = (f ⊖ whole 1) ⊗ recip (f ⊕ whole 1) (above_suc f)

-- item 1: u for ln 2
unfoldable pub third : Ratio
third = one_over 3 (omega arith)

-- y^j/j!
unfoldable pub exp_term : Ratio → ℕ → Ratio
exp_term y j = power y j ⊗ record { num = 1; den = factorial j; positive = factorial_pos j }

-- (y^N/N!)·(N + 1)/(N + 1 - y)
unfoldable pub exp_tail : (y : Ratio) (n : ℕ) → Above0 (whole (suc n) ⊖ y) → Ratio
exp_tail y n h = exp_term y n ⊗ (whole (suc n) ⊗ recip (whole (suc n) ⊖ y) h)

-- item 2: the first N terms, and for the upper end, where N + 1 > y, the bound on the rest besides
unfoldable pub exp_lower : Ratio → ℕ → Ratio
exp_lower y n = sum (exp_term y) n

unfoldable pub exp_upper : (y : Ratio) (n : ℕ) → Above0 (whole (suc n) ⊖ y) → Ratio
exp_upper y n h = exp_lower y n ⊕ exp_tail y n h
