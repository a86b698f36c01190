-- The denominators of the sums are above 0: the evidence that their definitions carry. Assumes nothing.
use Rattle.std.specs.Prelude.{ℕ, zero, suc, ◌^◌, ◌<◌}
use Rattle.std.proofs.Math.Nat.{one-le-pow}
use Rattle.std.proofs.Common.{arith}
use Rattle.exact.specs.Fraction.{odd, factorial, Ratio, Above0, whole, ◌⊕◌}

pub odd_pos : (j : ℕ) → 0 < odd j
odd_pos j = omega arith

pub two_pow_pos : (k : ℕ) → 0 < 2 ^ k
two_pow_pos k = one-le-pow k 2 (omega arith)

pub factorial_pos : (n : ℕ) → 0 < factorial n
unfolding factorial
factorial_pos zero = omega arith
factorial_pos (suc n) = omega (arith, factorial_pos n)

pub above_suc : (f : Ratio) → Above0 (f ⊕ whole 1)
unfolding whole ◌⊕◌
above_suc f = omega (arith, f.positive)
