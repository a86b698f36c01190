-- The machine's steps of a multiple by p / d: both ends times p, the upper one's opposite, and minus the quotient of that. Assumes nothing.
use mathlib.Core.Path.{◌≡◌, refl, ap, ◌∙◌}
use Prim.Native.Nat.{ℕ, ◌*◌, ◌^◌, ◌≤◌, ◌<◌}
use native.Mathlib.Omega.{arith}
use lib.IntN.{ℤ, pos, negsuc, neg_ℤ, ◌*ℤ◌, ◌-ℤ◌}
use Rattle.std.specs.Int.{int_div_euclid}
use Rattle.fixed.specs.declared.Log.{Log}
use Rattle.fixed.specs.FloorAndCeiling.{floor_z, ceil_z}
use Rattle.fixed.specs.Promises.{Scalable, Scaled}
use Rattle.fixed.specs.Multiples.{scaled}
use Rattle.signed.specs.Reading.{R}
use Rattle.signed.specs.Magnitude.{Magnitude}
use Rattle.fixed.proofs.WordSteps.{Step, lower_end, upper_end, opposite, quotient, returned, opposite_step, multiple_size, multiple_step}

-- a word of 32 bits, made one of 64
widened : {n : ℕ} {k : ℤ} → k ≡ pos n → n < 2 ^ 32 → R k ≡ pos n
widened e h = returned e (record { plus = omega arith; minus = omega arith })

-- the library's quotient with a remainder from 0 up, by a number above 0
floored : (z : ℤ) (d : ℕ) → int_div_euclid z (pos d) ≡ floor_z z d
floored (pos a) d = refl
floored (negsuc a) d = refl

module _ {p : ℕ} {a : Log} (s : Scalable p a) {k : ℤ} (e : k ≡ pos p) where
  factor : R k ≡ pos p
  factor = widened e (omega (arith, s.factor))

  fits : 2 ^ 40 * p ≤ 2 ^ 62
  fits = omega (arith, s.factor)

  lower : Step (R a.lo *ℤ R k) (a.lo *ℤ pos p)
  lower = multiple_step (R k) factor (lower_end s.small) (omega arith) fits

  upper : Step (R a.hi *ℤ R k) (a.hi *ℤ pos p)
  upper = multiple_step (R k) factor (upper_end s.small) (omega arith) fits

  upper_size : Magnitude (2 ^ 62) (a.hi *ℤ pos p)
  upper_size = multiple_size p (upper_end s.small) fits

  upper_opposite : Step (pos 0 -ℤ R (R a.hi *ℤ R k)) (neg_ℤ (a.hi *ℤ pos p))
  upper_opposite = opposite_step (R a.hi *ℤ R k) upper.read upper_size

  -- l and q: the quotients that the division gave
  module _ {d : ℕ} {m : ℤ} (f : m ≡ pos d) (w : d < 2 ^ 32) {l q : ℤ} (g : l ≡ int_div_euclid (R (R a.lo *ℤ R k)) (R m)) (h : q ≡ int_div_euclid (R (pos 0 -ℤ R (R a.hi *ℤ R k))) (R m)) where
    divided : {r z v : ℤ} → r ≡ int_div_euclid z (R m) → z ≡ v → r ≡ floor_z v d
    divided {z = z} {v = v} i j =
        i ∙ ap (λ (y : ℤ). int_div_euclid z y) (widened f w) ∙ floored z d ∙ ap (λ (y : ℤ). floor_z y d) j

    lower_read : R l ≡ floor_z (a.lo *ℤ pos p) d
    lower_read = returned (divided g lower.read) (quotient (a.lo *ℤ pos p) d (multiple_size p (lower_end s.small) fits))

    pub last : Step (pos 0 -ℤ R q) (ceil_z (a.hi *ℤ pos p) d)
    last =
        let i = quotient (neg_ℤ (a.hi *ℤ pos p)) d (opposite upper_size) in
        opposite_step q (returned (divided h upper_opposite.read) i) i

    pub returns : 0 < d → Scaled p d a (record { lo = R l; hi = R (pos 0 -ℤ R q) })
    returns o = scaled p d a _ o s.left lower_read last.read
