-- What the private steps of ln promise: whole numbers of 2^-30 against the N-th ends of the series, for every N from 20 on.
-- Assumes nothing.
use Rattle.std.specs.Prelude.{◌≡◌, ℕ, ◌+◌, ◌*◌, ◌-◌, ◌^◌, ◌≤◌, ◌<◌, ℤ}
use Rattle.exact.specs.Fraction.{Ratio, Above0, whole, ◌⊕◌, ◌⊗◌, Frac, Positive}
use Rattle.exact.specs.Series.{gap, series_lower, series_upper}
use Rattle.exact.specs.LnExp.{ln2_lower, ln2_upper}
use Rattle.exact.specs.laws.Fixed.{Lower, Upper}
use Rattle.exact.specs.Bracket.{Bracket}
use Rattle.span.specs.Spans.{units}
use Rattle.span.specs.Unary.{LnWithin}
use Rattle.fixed.specs.Logs.{up, dn, fixed}
use Rattle.enclosure.specs.Promises.{reach}

-- a/b
unfoldable pub ratio : (a b : ℕ) → 0 < b → Ratio
ratio a b z = record { num = a; den = b; positive = z }

-- a/b is at most 1/3
pub record Third (a b : ℕ) : Type 0 where
  pub some : 0 < b
  pub fits : b ≤ 2 ^ 32
  pub third : 3 * a ≤ b

-- the series at u = a/b: its ends lie from r to r + 6
pub record Series (a b r : ℕ) : Type 0 where
  pub below : (z : 0 < b) (n : ℕ) → 20 ≤ n → Lower (2 ^ 30) r (series_lower (ratio a b z) n)
  pub above : (z : 0 < b) (n : ℕ) → 20 ≤ n → (h : Above0 (gap (ratio a b z))) → Upper (2 ^ 30) (r + 6) (series_upper (ratio a b z) n h)
  pub small : r ≤ 3 * 2 ^ 28

-- k ln 2 and the series

pub record OctavesOf (k a b : ℕ) : Type 0 where
  pub series : Third a b
  pub most : k ≤ 1023

pub record Octaves (k a b r : ℕ) : Type 0 where
  pub below : (z : 0 < b) (n : ℕ) → 20 ≤ n → Lower (2 ^ 30) r (whole k ⊗ ln2_lower n ⊕ series_lower (ratio a b z) n)
  pub above : (z : 0 < b) (n : ℕ) → 20 ≤ n → (h : Above0 (gap (ratio a b z)))
      → Upper (2 ^ 30) (r + 8) (whole k ⊗ ln2_upper n ⊕ series_upper (ratio a b z) n h)
  pub small : r ≤ reach k

-- A logarithm in a word: 2^40 stands for 0

unfoldable pub biased : ℕ → Frac
biased h = fixed h (2 ^ 40)

-- from l to h
unfoldable pub biased_pair : ℕ → ℕ → Bracket
biased_pair l h = record { lo = biased l; hi = biased h }

-- ln at the point m·2^e / 2^1024: its ends lie from h to h + 8

pub record Point (m e : ℕ) : Type 0 where
  pub least : 2 ^ 30 ≤ m
  pub most : m ≤ 2 ^ 31
  pub exponent : e ≤ 2017

-- x from 2^994 up, y below
pub record Sided (e x y r : ℕ) : Type 0 where
  pub above : 994 ≤ e → r ≡ x
  pub below : e < 994 → r ≡ y

pub record LnPoint (m e h : ℕ) : Type 0 where
  pub ends : (z : Positive (units (m * 2 ^ e))) (n : ℕ) → 20 ≤ n → LnWithin (units (m * 2 ^ e)) z n (biased_pair h (h + 8))
  pub least : (k : ℕ) → 993 ≤ e + k → 2 ^ 40 ≤ h + (reach k + 8)
  pub most : (k : ℕ) → e ≤ 994 + k → h ≤ 2 ^ 40 + reach k

-- the slack of a span's lower end: w is (hi - lo)/lo in 2^-30, rounded upward

pub record Slackened (lo hi : ℕ) : Type 0 where
  pub least : 2 ^ 29 ≤ lo
  pub ordered : lo ≤ hi
  pub most : hi ≤ 2 ^ 31

pub record Slack (lo hi w : ℕ) : Type 0 where
  pub covers : (hi - lo) * 2 ^ 30 ≤ w * lo
  pub near : w * lo ≤ (hi - lo) * 2 ^ 30 + lo
  pub small : w < 2 ^ 33

-- r is x less 2^40, by the parts of a signed number
pub record Unbiased (x : ℕ) (r : ℤ) : Type 0 where
  pub parts : up r + 2 ^ 40 ≡ dn r + x
