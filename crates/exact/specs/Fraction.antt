-- Fractions from 0 up (`Ratio`) and signed ones (`Frac`), the ends of the brackets of document 01, "What exact means", whose items the other files name by number.
use Rattle.std.specs.Prelude.{ℕ, zero, suc, ◌+◌, ◌*◌, ◌-◌, ◌≤◌, ◌<◌, ◌≡◌}
use Rattle.std.proofs.Common.{mul-pos, arith}

pub record Ratio : Type 0 where
  pub num : ℕ
  pub den : ℕ
  pub positive : 0 < den

infix 40 ◌≼◌ ◌≈◌ ◌⊑◌
infixl 60 ◌⊕◌ ◌⊖◌ ◌⊞◌ ◌⊟◌
infixl 70 ◌⊗◌ ◌⊠◌
pub record ◌≼◌ (x y : Ratio) : Type 0 where
  pub cross : x.num * y.den ≤ y.num * x.den

-- the same value
pub record ◌≈◌ (x y : Ratio) : Type 0 where
  pub cross : x.num * y.den ≡ y.num * x.den

pub record Above0 (x : Ratio) : Type 0 where
  pub above : 0 < x.num

unfoldable pub whole : ℕ → Ratio
whole n = record { num = n; den = 1; positive = omega arith }

unfoldable pub ◌⊕◌ : Ratio → Ratio → Ratio
x ⊕ y = record { num = x.num * y.den + y.num * x.den; den = x.den * y.den; positive = mul-pos x.positive y.positive }

unfoldable pub ◌⊗◌ : Ratio → Ratio → Ratio
x ⊗ y = record { num = x.num * y.num; den = x.den * y.den; positive = mul-pos x.positive y.positive }

-- x - y, 0 where it would be negative
unfoldable pub ◌⊖◌ : Ratio → Ratio → Ratio
x ⊖ y = record { num = x.num * y.den - y.num * x.den; den = x.den * y.den; positive = mul-pos x.positive y.positive }

-- 1/x
unfoldable pub recip : (x : Ratio) → Above0 x → Ratio
recip x h = record { num = x.den; den = x.num; positive = h.above }

unfoldable pub power : Ratio → ℕ → Ratio
power x zero = whole 1
power x (suc n) = x ⊗ power x n

-- f 0 + .. + f (n - 1)
unfoldable pub sum : (ℕ → Ratio) → ℕ → Ratio
sum f zero = whole 0
sum f (suc n) = sum f n ⊕ f n

-- (plus - minus)/den
pub record Frac : Type 0 where
  pub plus : ℕ
  pub minus : ℕ
  pub den : ℕ
  pub positive : 0 < den

pub record ◌⊑◌ (x y : Frac) : Type 0 where
  pub cross : x.plus * y.den + y.minus * x.den ≤ y.plus * x.den + x.minus * y.den

pub record Positive (x : Frac) : Type 0 where
  pub above : x.minus < x.plus

unfoldable pub of_ratio : Ratio → Frac
of_ratio r = record { plus = r.num; minus = 0; den = r.den; positive = r.positive }

unfoldable pub zero_f : Frac
zero_f = record { plus = 0; minus = 0; den = 1; positive = omega arith }

unfoldable pub one_f : Frac
one_f = of_ratio (whole 1)

-- x, 0 where it is negative
unfoldable pub magnitude : Frac → Ratio
magnitude x = record { num = x.plus - x.minus; den = x.den; positive = x.positive }

unfoldable pub ◌⊞◌ : Frac → Frac → Frac
x ⊞ y = record { plus = x.plus * y.den + y.plus * x.den; minus = x.minus * y.den + y.minus * x.den; den = x.den * y.den; positive = mul-pos x.positive y.positive }

unfoldable pub neg : Frac → Frac
neg x = record { plus = x.minus; minus = x.plus; den = x.den; positive = x.positive }

unfoldable pub ◌⊟◌ : Frac → Frac → Frac
x ⊟ y = x ⊞ neg y

unfoldable pub ◌⊠◌ : Frac → Frac → Frac
x ⊠ y = record { plus = x.plus * y.plus + x.minus * y.minus; minus = x.plus * y.minus + x.minus * y.plus; den = x.den * y.den; positive = mul-pos x.positive y.positive }

-- 1/x
unfoldable pub inverse : (x : Frac) → Positive x → Frac
inverse x h = record { plus = x.den; minus = 0; den = x.plus - x.minus; positive = omega arith }

-- the whole numbers of the sums: 2j and 2j + 1, by recursion so that they compute, and n!
unfoldable pub even : ℕ → ℕ
even zero = 0
even (suc j) = suc (suc (even j))

abbrev pub odd : ℕ → ℕ
odd j = suc (even j)

unfoldable pub factorial : ℕ → ℕ
factorial zero = 1
factorial (suc n) = suc n * factorial n
