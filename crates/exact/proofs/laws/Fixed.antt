-- Fixed point, in S-ths: the step from a program's rounded whole numbers to the fractions of the brackets. Products and
-- quotients rounded down keep a lower bound, and one more keeps an upper bound. `lower_series` is the pattern for a loop that
-- sums a series. Assumes nothing.
use Rattle.exact.specs.laws.Fixed.{Lower, Upper}
use Prim.Native.Nat.{ℕ, zero, suc, ◌+◌, ◌*◌, ◌/◌, ◌≤◌, ◌<◌}
use Rattle.std.proofs.Common.{mul-le-mul, mul-le-mul_right, le_of_mul-le-mul_right, div-mul-le_self, arith}
use Rattle.std.proofs.Math.Nat.{lt-div-mul-add}
use Rattle.exact.specs.Fraction.{Ratio, whole, ◌⊕◌, ◌⊗◌, power, sum}
use Rattle.exact.specs.Series.{one_over, even, odd, ln_term}
use Rattle.exact.specs.laws.Positive.{odd_pos}

pub lower_sum : {S a b : ℕ} {x y : Ratio} → Lower S a x → Lower S b y → Lower S (a + b) (x ⊕ y)
unfolding ◌⊕◌
lower_sum {S} {a} {b} {x} {y} h k = omega (arith, mul-le-mul_right y.den h.bound, mul-le-mul_right x.den k.bound)

pub upper_sum : {S a b : ℕ} {x y : Ratio} → Upper S a x → Upper S b y → Upper S (a + b) (x ⊕ y)
unfolding ◌⊕◌
upper_sum {S} {a} {b} {x} {y} h k = omega (arith, mul-le-mul_right y.den h.bound, mul-le-mul_right x.den k.bound)

pub lower_product : {S a b : ℕ} {x y : Ratio} → 0 < S → Lower S a x → Lower S b y → Lower S (a * b / S) (x ⊗ y)
unfolding ◌⊗◌
lower_product {S} {a} {b} {x} {y} z h k =
    record {
      bound =
          le_of_mul-le-mul_right {k = S}
          (omega (arith, mul-le-mul h.bound k.bound, mul-le-mul_right (x.den * y.den) (div-mul-le_self (a * b) S))) z;
    }

pub upper_product : {S a b : ℕ} {x y : Ratio} → 0 < S → Upper S a x → Upper S b y → Upper S (suc (a * b / S)) (x ⊗ y)
unfolding ◌⊗◌
upper_product {S} {a} {b} {x} {y} z h k =
    let q : a * b ≤ suc (a * b / S) * S = omega (arith, lt-div-mul-add {a = a * b} z) in
    record {
      bound = le_of_mul-le-mul_right {k = S} (omega (arith, mul-le-mul h.bound k.bound, mul-le-mul_right (x.den * y.den) q)) z;
    }

pub lower_over : {S a : ℕ} {x : Ratio} (n : ℕ) (z : 0 < n) → Lower S a x → Lower S (a / n) (x ⊗ one_over n z)
unfolding one_over ◌⊗◌
lower_over {S} {a} {x} n z h = omega (arith, h.bound, mul-le-mul_right x.den (div-mul-le_self a n))

-- The loop of a program: powers p of u in S-ths by w, which is u² in S-ths, and their quotients by 1, 3, 5, ..

unfoldable pub powers_down : (S p w : ℕ) → ℕ → ℕ
powers_down S p w zero = p
powers_down S p w (suc j) = w * powers_down S p w j / S

unfoldable pub sum_down : (S p w : ℕ) → ℕ → ℕ
sum_down S p w zero = 0
sum_down S p w (suc n) = sum_down S p w n + powers_down S p w n / odd n

unit_bound : {S p : ℕ} {u : Ratio} → Lower S p u → Lower S p (u ⊗ whole 1)
unfolding whole ◌⊗◌
unit_bound h = omega arith

square_bound : {S a : ℕ} (u x : Ratio) → Lower S a (u ⊗ u ⊗ x) → Lower S a (u ⊗ (u ⊗ x))
unfolding ◌⊗◌
square_bound u x h = omega arith

nothing_bound : {S : ℕ} → Lower S 0 (whole 0)
unfolding whole
nothing_bound = omega arith

module _ (S p w : ℕ) (u : Ratio) (z : 0 < S) (h : Lower S p u) (k : Lower S w (u ⊗ u)) where
  lower_powers : (j : ℕ) → Lower S (powers_down S p w j) (power u (odd j))
  unfolding powers_down even power
  lower_powers zero = unit_bound h
  lower_powers (suc j) = square_bound u (power u (odd j)) (lower_product z k (lower_powers j))

  pub lower_series : (n : ℕ) → Lower S (sum_down S p w n) (sum (ln_term u) n)
  unfolding sum_down sum ln_term
  lower_series zero = nothing_bound
  lower_series (suc n) = lower_sum (lower_series n) (lower_over (odd n) (odd_pos n) (lower_powers n))
