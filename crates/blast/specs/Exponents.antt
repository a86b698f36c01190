-- A span's exponent from a bound of its upper end, from 1 up. Assumes nothing.
use Rattle.std.specs.Prelude.{ℕ, ◌+◌, ◌*◌, ◌^◌, ◌≤◌, ◌<◌, ◌≡◌, refl}
use Rattle.std.proofs.Common.{arith, lt_of_le_of_lt, mul-le-mul_right}
use Rattle.std.proofs.Math.Pow.{pow-lt}
use Rattle.span.specs.declared.Span.{Span}
use Rattle.span.specs.Spans.{unit, Normal}
use Rattle.span.specs.Powers.{powers, exponent_below}

in_units : (j : ℕ) → 2 ^ j * unit ≡ 2 ^ (j + 1024)
unfolding unit
in_units j = powers j 1024 (j + 1024) refl

-- from 2^j up
pub exponent_from : {a : Span} → Normal a → (j : ℕ) → 2 ^ j * unit ≤ a.hi * 2 ^ a.e → 993 + j ≤ a.e
exponent_from {a} m j h =
    let top : a.hi * 2 ^ a.e ≤ 2 ^ 31 * 2 ^ a.e = mul-le-mul_right (2 ^ a.e) m.most in
    let all = powers 31 a.e (31 + a.e) refl in
    let less : 2 ^ (31 + a.e) < 2 ^ (32 + a.e) = pow-lt (omega arith) in
    let i = in_units j in
    let low : 2 ^ (j + 1024) ≤ 2 ^ (31 + a.e) = omega arith in
    omega (arith, exponent_below (j + 1024) (32 + a.e) (lt_of_le_of_lt low less))
