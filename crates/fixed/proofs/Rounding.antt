-- The machine's steps of the two roundings to thousandths: an end times 1000, shifted; upward it is minus the shift of the opposite.
-- Assumes nothing.
use mathlib.Core.Path.{◌≡◌, refl}
use Prim.Native.Nat.{◌^◌}
use native.Mathlib.Omega.{arith}
use lib.IntN.{ℤ, pos, neg_ℤ, ◌*ℤ◌, ◌-ℤ◌}
use lib.Signed.{shr_z}
use Rattle.fixed.specs.declared.Log.{Log}
use Rattle.fixed.specs.FloorAndCeiling.{ceil_z}
use Rattle.fixed.specs.Millis.{Countable, floor_milli, ceil_milli}
use Rattle.signed.specs.Reading.{R}
use Rattle.signed.specs.Magnitude.{Magnitude}
use Rattle.fixed.proofs.WordSteps.{Step, lower_end, upper_end, opposite, quotient, opposite_step, shift_step, multiple_size, multiple_step}

thousand : {x : ℤ} → Magnitude (2 ^ 50) x → Step (R x *ℤ pos 1000) (x *ℤ pos 1000)
thousand h = multiple_step (pos 1000) refl h (omega arith) (omega arith)

thousand_size : {x : ℤ} → Magnitude (2 ^ 50) x → Magnitude (2 ^ 62) (x *ℤ pos 1000)
thousand_size h = multiple_size 1000 h (omega arith)

module _ {y : Log} (c : Countable y) where
  pub lower : Step (R y.lo *ℤ pos 1000) (y.lo *ℤ pos 1000)
  lower = thousand (lower_end c.small)

  pub floor_returns : R (shr_z (R (R y.lo *ℤ pos 1000)) (2 ^ 30)) ≡ floor_milli y
  unfolding floor_milli
  floor_returns = (shift_step (R y.lo *ℤ pos 1000) (2 ^ 30) lower.read (thousand_size (lower_end c.small))).read

  pub upper : Step (R y.hi *ℤ pos 1000) (y.hi *ℤ pos 1000)
  upper = thousand (upper_end c.small)

  upper_size : Magnitude (2 ^ 62) (y.hi *ℤ pos 1000)
  upper_size = thousand_size (upper_end c.small)

  pub upper_opposite : Step (pos 0 -ℤ R (R y.hi *ℤ pos 1000)) (neg_ℤ (y.hi *ℤ pos 1000))
  upper_opposite = opposite_step (R y.hi *ℤ pos 1000) upper.read upper_size

  pub last : Step (pos 0 -ℤ R (shr_z (R (pos 0 -ℤ R (R y.hi *ℤ pos 1000))) (2 ^ 30))) (ceil_z (y.hi *ℤ pos 1000) (2 ^ 30))
  last =
      let e = pos 0 -ℤ R (R y.hi *ℤ pos 1000) in
      opposite_step (shr_z (R e) (2 ^ 30)) (shift_step e (2 ^ 30) upper_opposite.read (opposite upper_size)).read
      (quotient (neg_ℤ (y.hi *ℤ pos 1000)) (2 ^ 30) (opposite upper_size))

  pub ceil_returns : R (pos 0 -ℤ R (shr_z (R (pos 0 -ℤ R (R y.hi *ℤ pos 1000))) (2 ^ 30))) ≡ ceil_milli y
  unfolding ceil_milli
  ceil_returns = last.read
