-- For the callers: between a span's exponent and its value, in powers of two, and when a difference may be taken. One is 2^1024
-- units, so an exponent of 994 stands for a number from 1 to 2. Assumes nothing.
use Rattle.std.specs.Prelude.{◌≡◌, refl, ℕ, ◌+◌, ◌*◌, ◌^◌, ◌≤◌, ◌<◌}
use Rattle.std.proofs.Common.{lt_of_le_of_lt, mul-pos, mul-le-mul_right, le_of_mul-le-mul_right, arith, pow_mono}
use Rattle.std.proofs.Math.Pow.{pow-lt}
use Rattle.span.specs.declared.Span.{Span}
use Rattle.span.specs.Spans.{unit, Normal, Rel, Width}
use Rattle.span.specs.Enclosing.{wider}
use Rattle.span.specs.Bounds.{Held, value_width}
use Rattle.span.specs.Powers.{powers, shared, exponent_below}

in_units : (j k : ℕ) → j + 1024 ≡ k → 2 ^ j * unit ≡ 2 ^ k
unfolding unit
in_units j k h = powers j 1024 k h

unit_most : (k : ℕ) → 1024 ≤ k → unit ≤ 2 ^ k
unfolding unit
unit_most k h = pow_mono h

unit_less : (k : ℕ) → unit < 2 ^ k → 1024 < k
unfolding unit
unit_less k h = exponent_below 1024 k h

-- 2^i ≤ m and m·2^e ≤ 2^j
pub exponent_by : (m i e j : ℕ) → 2 ^ i ≤ m → m * 2 ^ e ≤ 2 ^ j * unit → i + e ≤ j + 1024
exponent_by m i e j l h =
    let one = in_units j (j + 1024) refl in
    let two : 2 ^ (j + 1024) < 2 ^ (j + 1025) = pow-lt (omega arith) in
    let low : 2 ^ (i + e) ≤ m * 2 ^ e = omega (arith, powers i e (i + e) refl, mul-le-mul_right (2 ^ e) l) in
    let less = exponent_below (i + e) (j + 1025) (lt_of_le_of_lt low (omega arith)) in
    omega arith

pub exponent_most : {a : Span} → Normal a → (j : ℕ) → a.hi * 2 ^ a.e ≤ 2 ^ j * unit → a.e ≤ 994 + j
exponent_most {a} m j h = omega (arith, exponent_by a.hi 30 a.e j m.least h)

pub exponent_least : {a : Span} → Normal a → (j : ℕ) → unit ≤ a.hi * 2 ^ a.e * 2 ^ j → 993 ≤ a.e + j
exponent_least {a} m j h =
    let k = a.e + j in
    let top : a.hi * 2 ^ k ≤ 2 ^ 31 * 2 ^ k = mul-le-mul_right (2 ^ k) m.most in
    let all = powers 31 k (31 + k) refl in
    let less : 2 ^ (31 + k) < 2 ^ (32 + k) = pow-lt (omega arith) in
    let same = shared a.hi a.e j k refl in
    omega (arith, unit_less (32 + k) (omega arith))

pub value_most : {a : Span} → Normal a → (j : ℕ) → a.e ≤ 993 + j → a.hi * 2 ^ a.e ≤ 2 ^ j * unit
value_most {a} m j h =
    let up : 2 ^ (31 + a.e) ≤ 2 ^ (j + 1024) = pow_mono (omega arith) in
    omega (arith, in_units j (j + 1024) refl, powers 31 a.e (31 + a.e) refl, mul-le-mul_right (2 ^ a.e) m.most)

pub value_least : {a : Span} → Normal a → (j : ℕ) → 994 ≤ a.e + j → unit ≤ a.hi * 2 ^ a.e * 2 ^ j
value_least {a} m j h =
    let k = a.e + j in
    omega (arith, unit_most (30 + k) (omega arith), powers 30 k (30 + k) refl, shared a.hi a.e j k refl, mul-le-mul_right (2 ^ k) m.least)

-- The exponent from a point n/d that the span holds

pub held_most : {a : Span} {n d : ℕ} → 2 ^ 29 ≤ a.lo → Held a n d → 0 < d → (j : ℕ) → n ≤ 2 ^ j * d → a.e ≤ 995 + j
held_most {a} {n} {d} far h z j l =
    let low : a.lo * 2 ^ a.e ≤ 2 ^ j * unit = le_of_mul-le-mul_right {k = d} (omega (arith, h.below, mul-le-mul_right unit l)) z in
    omega (arith, exponent_by a.lo 29 a.e j far low)

pub held_least : {a : Span} {n d : ℕ} → Normal a → Held a n d → 0 < n → (j : ℕ) → d ≤ 2 ^ j * n → 993 ≤ a.e + j
held_least {a} {n} {d} m h z j l =
    exponent_least m j
    (le_of_mul-le-mul_right {k = n} (omega (arith, h.above, mul-le-mul_right (a.hi * 2 ^ a.e) l)) z)

-- Where b holds m/e and a holds n/d, and m/e is at most seven tenths of n/d, narrow spans leave a fourth of a over: what `sub` asks

shares : (A A' B B' X U n d m e : ℕ) → X ≡ d * e → 0 < X → n * U ≤ A' * d → B * e ≤ m * U → 10 * (m * d) ≤ 7 * (n * e)
    → Rel A A' (2 ^ 20) → Rel B B' (2 ^ 20) → 4 * B' ≤ 3 * A
shares A A' B B' X U n d m e x z a b h v w =
    let most : 10 * B ≤ 7 * A' = le_of_mul-le-mul_right {k = d * e} (omega (arith, mul-le-mul_right (7 * e) a, mul-le-mul_right (10 * d) b, mul-le-mul_right U h)) (omega arith) in
    omega arith

pub share_left : {a b : Span} {n d m e C D : ℕ} → Held a n d → Held b m e → 0 < d → 0 < e → 10 * (m * d) ≤ 7 * (n * e)
    → Width a C → C ≤ 2 ^ 20 → Width b D → D ≤ 2 ^ 20 → 4 * (b.hi * 2 ^ b.e) ≤ 3 * (a.lo * 2 ^ a.e)
share_left {a} {b} {n} {d} {m} {e} h k y z l v c w g =
    shares _ (a.hi * 2 ^ a.e) (b.lo * 2 ^ b.e) _ (d * e) unit n d m e refl (mul-pos y z) h.above k.below l (value_width a (wider c v)) (value_width b (wider g w))
