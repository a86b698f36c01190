-- Items 1 and 2: the N-th ends of ln t and e^y at signed fractions, `none` where there is none. laws/Divisors: no divisor is 0.
use Rattle.std.specs.Prelude.{ℕ, suc}
use Rattle.std.proofs.Math.Option.{Option, none, some, map}
use Rattle.exact.specs.Fraction.{Ratio, ◌≼◌, whole, ◌⊕◌, ◌⊗◌, ◌⊖◌, recip, Frac, Positive, of_ratio, zero_f, one_f, magnitude, neg}
use Rattle.exact.specs.Series.{series_lower, series_upper, exponent, fraction, argument, third, exp_lower, exp_upper}
use Rattle.exact.specs.laws.Decide.{dec_above0, dec_f}
use Rattle.exact.specs.laws.Divisors.{gap_third, gap_argument, fraction_above, magnitude_above, one_magnitude, one_recip}

-- item 1: ln 2
unfoldable pub ln2_lower : ℕ → Ratio
ln2_lower n = series_lower third n

unfoldable pub ln2_upper : ℕ → Ratio
ln2_upper n = series_upper third n gap_third

-- item 1: k ln 2 + ln f, for t ≥ 1
unfoldable pub ln_lower : Ratio → ℕ → Ratio
ln_lower t n = whole (exponent t) ⊗ ln2_lower n ⊕ series_lower (argument (fraction t)) n

unfoldable pub ln_upper : (t : Ratio) → whole 1 ≼ t → ℕ → Ratio
ln_upper t l n = whole (exponent t) ⊗ ln2_upper n ⊕ series_upper (argument (fraction t)) n (gap_argument (fraction t) (fraction_above t l))

-- 1/t
abbrev pub over : (t : Frac) → Positive t → Ratio
over t h = recip (magnitude t) (magnitude_above t h)

-- item 1: ln t, for t < 1 minus the other end of ln (1/t)
unfoldable pub ln_lower_at : (t : Frac) → Positive t → ℕ → Frac
ln_lower_at t h n = elim (dec_f one_f t) [ yes l ↦ of_ratio (ln_lower (magnitude t) n) | no l ↦ neg (of_ratio (ln_upper (over t h) (one_recip t _ l) n)) ]

unfoldable pub ln_upper_at : (t : Frac) → Positive t → ℕ → Frac
ln_upper_at t h n = elim (dec_f one_f t) [ yes l ↦ of_ratio (ln_upper (magnitude t) (one_magnitude l) n) | no l ↦ neg (of_ratio (ln_lower (over t h) n)) ]

-- item 2: the upper end of e^y, y ≥ 0, is there for N + 1 > y only
unfoldable pub exp_upper_of : Ratio → ℕ → Option Ratio
exp_upper_of y n = elim (dec_above0 (whole (suc n) ⊖ y)) [ yes h ↦ some (exp_upper y n h) | no h ↦ none ]

unfoldable pub one_over_of : Option Ratio → Option Ratio
one_over_of none = none
one_over_of (some x) = elim (dec_above0 x) [ yes h ↦ some (recip x h) | no h ↦ none ]

-- item 2: e^y, for y < 0 one over the other end of e^(-y)
unfoldable pub exp_lower_at : Frac → ℕ → Option Frac
exp_lower_at y n = map of_ratio (elim (dec_f zero_f y) [ yes l ↦ some (exp_lower (magnitude y) n) | no l ↦ one_over_of (exp_upper_of (magnitude (neg y)) n) ])

unfoldable pub exp_upper_at : Frac → ℕ → Option Frac
exp_upper_at y n = map of_ratio (elim (dec_f zero_f y) [ yes l ↦ exp_upper_of (magnitude y) n | no l ↦ one_over_of (some (exp_lower (magnitude (neg y)) n)) ])
