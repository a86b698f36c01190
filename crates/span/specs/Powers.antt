-- Laws of quotients and of m·2^e. Assumes nothing.
use Rattle.std.specs.Prelude.{◌≡◌, ℕ, ◌+◌, ◌*◌, ◌/◌, ◌^◌, ◌≤◌, ◌<◌}
use Rattle.std.proofs.Common.{sym, ap, ◌∙◌, mul_assoc, mul_comm, mul_left_comm, mul-le-mul, div-mul-le_self, le-div_iff_mul-le, div-lt_iff_lt-mul, suc-mul, arith, add-one, pow-add, pow_mono}
use Rattle.std.proofs.Math.Nat.{lt-div-mul-add}
use Rattle.std.proofs.Math.Decide.{dec_lt}

-- products of the same factors in any order
pub ruleset product = (mul_assoc, mul_comm, mul_left_comm)

-- two powers make one
pub powers : (i j k : ℕ) → i + j ≡ k → 2 ^ i * 2 ^ j ≡ 2 ^ k
powers i j k h = sym (pow-add 2 i j) ∙ ap (λ (x : ℕ). 2 ^ x) h

-- a mantissa takes i of the bits
pub shared : (m i j k : ℕ) → i + j ≡ k → m * 2 ^ i * 2 ^ j ≡ m * 2 ^ k
shared m i j k h = mul_assoc m (2 ^ i) (2 ^ j) ∙ ap (λ (x : ℕ). m * x) (powers i j k h)

-- the product of two scaled numbers
pub factored : (p q s t : ℕ) → p * 2 ^ s * (q * 2 ^ t) ≡ p * q * 2 ^ (s + t)
factored p q s t = rw pow-add (simp product)

-- the exponent below, from the power below
pub exponent_below : (i j : ℕ) → 2 ^ i < 2 ^ j → i < j
exponent_below i j h = elim (dec_lt i j) [ yes l ↦ l | no n ↦ (let far : 2 ^ j ≤ 2 ^ i = pow_mono (omega arith) in omega arith) ]

pub product_high : {a b : ℕ} → a ≤ 2 ^ 31 → b ≤ 2 ^ 31 → a * b ≤ 2 ^ 62
product_high ha hb = mul-le-mul ha hb

-- a quotient of x by y, by what it says of products
pub quotient : (x y : ℕ) → 0 < y → (x / y * y ≤ x) × (x < x / y * y + y)
quotient x y h = (div-mul-le_self x y, lt-div-mul-add h)

pub quotient_least : (x y l : ℕ) → 0 < y → l * y ≤ x → l ≤ x / y
quotient_least x y l h le = (le-div_iff_mul-le h).1 le

pub quotient_below : (x y u : ℕ) → 0 < y → x < u * y → x / y < u
quotient_below x y u h lt = (div-lt_iff_lt-mul {y = u} h).1 lt

pub next : (q y : ℕ) → (q + 1) * y ≡ q * y + y
next q y = rw add-one (suc-mul q y)
