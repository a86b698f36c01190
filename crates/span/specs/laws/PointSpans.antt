-- An exact value has a point for its interval: whole numbers below 2^31, and what is whole among their products and quotients.
-- Assumes nothing.
use Rattle.std.specs.Prelude.{◌≡◌, refl, ℕ, ◌+◌, ◌*◌, ◌-◌, ◌^◌, ◌≤◌, ◌<◌}
use Rattle.std.proofs.Common.{le_of_mul-le-mul_right, lt_of_mul-lt-mul_right, arith}
use Rattle.span.specs.declared.Span.{Span}
use Rattle.span.specs.Spans.{unit, unit_positive, Normal, Whole, Product, Quotient, Floor, Ceiling}
use Rattle.span.specs.Constants.{scaled_by_lem}

-- the number n and no other
pub record Point (a : Span) (n : ℕ) : Type 0 where
  pub low : a.lo * 2 ^ a.e ≡ n * unit
  pub high : a.hi * 2 ^ a.e ≡ n * unit

-- a whole number of ones is a whole number of 2^e
ones : (n e : ℕ) → e ≤ 1024 → n * 2 ^ (1024 - e) * 2 ^ e ≡ n * unit
ones n e h = scaled_by_lem n (1024 - e) e (omega arith)

-- both ends at one mantissa
at_once : {r : Span} {m n : ℕ} → Normal r → m * 2 ^ r.e ≡ n * unit → m ≤ r.lo → r.hi ≤ m → Point r n
at_once {r} {m} {n} d e l u =
    let low : r.lo ≡ m = omega (arith, d.ordered) in
    let high : r.hi ≡ m = omega (arith, d.ordered) in
    record { low = rw low e; high = rw high e }

pub whole_point : {n : ℕ} {r : Span} → Whole n r → r.e ≤ 1024 → Point r n
whole_point {n} {r} w h =
    let e = ones n r.e h in
    at_once w.normal e (w.lower_greatest _ (omega arith)) (w.upper_least _ (omega arith))

pub product_point : {a b r : Span} {m n : ℕ} → Point a m → Point b n → Product a b r → r.e ≤ 1024 → Point r (m * n)
product_point {a} {b} {r} {m} {n} x y p h =
    let e = ones (m * n) r.e h in
    at_once p.normal e (p.lower_greatest _ (rw (e, x.low, y.low) (omega arith))) (p.upper_least _ (rw (e, x.high, y.high) (omega arith)))

-- n times the quotient is what is divided
pub quotient_point : {a b r : Span} {m n : ℕ} → Point a (m * n) → Point b n → Quotient a b r → r.e ≤ 1024 → Point r m
quotient_point {a} {b} {r} {m} {n} x y q h =
    let e = ones m r.e h in
    at_once q.normal e (q.lower_greatest _ (rw (e, x.low, y.high) (omega arith))) (q.upper_least _ (rw (e, x.high, y.low) (omega arith)))

pub point_wholes : {a : Span} {n l u : ℕ} → Point a n → Floor a l → Ceiling a u → (l ≡ n) × (u ≡ n)
point_wholes {a} {n} {l} {u} p f c =
    let below : l ≤ n = le_of_mul-le-mul_right {k = unit} (omega (arith, p.low, f.below)) unit_positive in
    let above : n ≤ u = le_of_mul-le-mul_right {k = unit} (omega (arith, p.high, c.above)) unit_positive in
    let least : n < l + 1 = lt_of_mul-lt-mul_right unit (omega (arith, p.low, f.near)) in
    let most : u < n + 1 = lt_of_mul-lt-mul_right unit (omega (arith, p.high, c.near)) in
    (omega arith, omega arith)

-- 18·P0, as in the near field of a detonation, in every permitted air
abbrev eighteen : Span
eighteen = record { lo = 1207959552; hi = 1207959552; e = 998 }

pub near_field_lem : {p r : Span} {l u n : ℕ} → 0 < n → n ≤ 110000 → Whole n p → Product eighteen p r → Floor r l → Ceiling r u → (l ≡ 18 * n) × (u ≡ 18 * n)
near_field_lem {p} {r} z h w x f c =
    let q : Point eighteen 18 = record { low = scaled_by_lem 18 26 998 refl; high = scaled_by_lem 18 26 998 refl } in
    let few : p.e ≤ 1010 = w.most 17 (omega arith) in
    let fits : r.e ≤ 1024 = omega (arith, x.most) in
    point_wholes (product_point q (whole_point w (omega arith)) x fits) f c
