-- Steps on signed words: a `Step` says of what the code computes that it fits and what is read back of it; there is one for each operation.
-- Assumes nothing.
use mathlib.Core.Path.{◌≡◌, refl, ap, ◌∙◌}
use Prim.Native.Nat.{ℕ, ◌*◌, ◌^◌, ◌≤◌}
use native.Mathlib.Nat.{mul-le-mul_right, div-le_self}
use native.Mathlib.Omega.{arith}
use lib.IntN.{ℤ, pos, negsuc, neg_ℤ, ◌+ℤ◌, ◌-ℤ◌, ◌*ℤ◌, +ℤ_idl}
use lib.Signed.{shr_z}
use mir.Syntax.{w64}
use mir.Val.{SFits}
use Rattle.signed.specs.Reading.{R}
use Rattle.signed.specs.Magnitude.{Magnitude}
use Rattle.signed.proofs.Magnitude.{looser, fits_word, own}
use Rattle.fixed.specs.declared.Log.{Log}
use Rattle.fixed.specs.FloorAndCeiling.{up, dn, floor_z}
use Rattle.fixed.specs.Logs.{Small}
use Rattle.fixed.specs.SignedLaws.{least, one_sided, neg_up, neg_dn, plus_parts, minus_parts, times_parts, multiple_up, multiple_dn}
use Rattle.fixed.proofs.Within.{within}

pub lower_end : {r : Log} {M : ℕ} → Small r M → Magnitude M r.lo
lower_end s = record { plus = s.lo_up; minus = s.lo_dn }

pub upper_end : {r : Log} {M : ℕ} → Small r M → Magnitude M r.hi
upper_end s = record { plus = s.hi_up; minus = s.hi_dn }

pub opposite : {z : ℤ} {M : ℕ} → Magnitude M z → Magnitude M (neg_ℤ z)
opposite {z} h = record { plus = omega (arith, h.minus, neg_up z); minus = omega (arith, h.plus, neg_dn z) }

pub quotient : (z : ℤ) (d : ℕ) {M : ℕ} → Magnitude M z → Magnitude M (floor_z z d)
quotient (pos a) d h = record { plus = omega (arith, h.plus, div-le_self a d); minus = omega arith }
quotient (negsuc a) d h = record { plus = omega arith; minus = omega (arith, h.minus, div-le_self a d) }

-- what the code computes as e is v
pub record Step (e v : ℤ) : Type 0 where
  pub fits : SFits w64 e
  pub read : R e ≡ v

step : {e v : ℤ} → e ≡ v → Magnitude (2 ^ 62) v → Step e v
step {e} {v} p h = record { fits = rw p (record { sfits = fits_word v h }); read = ap R p ∙ own h }

-- what a call returned, read back
pub returned : {e v : ℤ} → e ≡ v → Magnitude (2 ^ 62) v → R e ≡ v
returned p h = (step p h).read

-- Operations

module _ {x y : ℤ} (h : Magnitude (2 ^ 61) x) (k : Magnitude (2 ^ 61) y) where
  read_x : R x ≡ x
  read_x = own (looser (omega arith) h)

  read_y : R y ≡ y
  read_y = own (looser (omega arith) k)

  pub plus_step : Step (R x +ℤ R y) (x +ℤ y)
  plus_step =
      let i = least (x +ℤ y) (plus_parts x y) in
      step (rw (read_x, read_y)) (record { plus = omega (arith, h.plus, k.plus); minus = omega (arith, h.minus, k.minus) })

  pub minus_step : Step (R x -ℤ R y) (x -ℤ y)
  minus_step =
      let i = least (x -ℤ y) (minus_parts x y) in
      step (rw (read_x, read_y)) (record { plus = omega (arith, h.plus, k.minus); minus = omega (arith, h.minus, k.plus) })

-- 0 - e
pub opposite_step : (e : ℤ) {v : ℤ} → R e ≡ v → Magnitude (2 ^ 62) v → Step (pos 0 -ℤ R e) (neg_ℤ v)
opposite_step e {v} p h = step (ap (λ (w : ℤ). pos 0 -ℤ w) p ∙ +ℤ_idl (neg_ℤ v)) (opposite h)

-- the arithmetic shift is the division downward
shifted : (z : ℤ) (m : ℕ) → shr_z z m ≡ floor_z z m
shifted (pos a) m = refl
shifted (negsuc a) m = refl

pub shift_step : (e : ℤ) {v : ℤ} (m : ℕ) → R e ≡ v → Magnitude (2 ^ 62) v → Step (shr_z (R e) m) (floor_z v m)
shift_step e {v} m p h = step (ap (λ (w : ℤ). shr_z w m) p ∙ shifted v m) (quotient v m h)

-- a product of two numbers, and one with a constant

pub product_size : {x y : ℤ} → Magnitude (2 ^ 31) x → Magnitude (2 ^ 31) y → Magnitude (2 ^ 62) (x *ℤ y)
product_size {x} {y} h k =
    let i =
    one_sided (x *ℤ y) {N = 2 ^ 62}
    (omega (arith, times_parts x y, within (up x) (dn x) (up y) (dn y) (2 ^ 31) (2 ^ 31) (omega (arith, h.plus)) (omega (arith, h.minus)) (omega (arith, k.plus)) (omega (arith, k.minus))))
    (omega (arith, times_parts x y, within (up x) (dn x) (dn y) (up y) (2 ^ 31) (2 ^ 31) (omega (arith, h.plus)) (omega (arith, h.minus)) (omega (arith, k.minus)) (omega (arith, k.plus)))) in
    record { plus = i.0; minus = i.1 }

pub product_step : {x y : ℤ} → Magnitude (2 ^ 31) x → Magnitude (2 ^ 31) y → Step (R x *ℤ R y) (x *ℤ y)
product_step h k = step (rw (own (looser (omega arith) h), own (looser (omega arith) k))) (product_size h k)

pub multiple_size : (p : ℕ) {x : ℤ} {M : ℕ} → Magnitude M x → M * p ≤ 2 ^ 62 → Magnitude (2 ^ 62) (x *ℤ pos p)
multiple_size p {x} {M} h l =
    record {
      plus = omega (arith, multiple_up x p, mul-le-mul_right p h.plus);
      minus = omega (arith, multiple_dn x p, mul-le-mul_right p h.minus);
    }

pub multiple_step : {x : ℤ} {M p : ℕ} (k : ℤ) → k ≡ pos p → Magnitude M x → M ≤ 2 ^ 62 → M * p ≤ 2 ^ 62 → Step (R x *ℤ k) (x *ℤ pos p)
multiple_step {p = p} k e h m l = step (rw (own (looser m h), e)) (multiple_size p h l)
