-- `enclosure::expo` meets its contract. Assumes nothing.
-- the ends and the width, as the code reads them
use mathlib.Core.Path.{◌≡◌, ap, ◌∙◌}
use native.Mathlib.Omega.{arith}
use lib.IntN.{ℤ, pos, ◌-ℤ◌}
use Rattle.fixed.specs.declared.Log.{Log}
use Rattle.fixed.specs.Logs.{apart}
use Rattle.enclosure.specs.Promises.{Exponent}
use Rattle.signed.specs.Reading.{R}
use Rattle.signed.proofs.Back.{back}
use Rattle.signed.proofs.Reading.{step}
use Rattle.signed.proofs.Magnitude.{size}
use Rattle.enclosure.proofs.Differences.{difference}
use Rattle.enclosure.proofs.ExpInterval.{upper_least, interval}
use Rattle.enclosure.proofs.expo.Goals as goal

module _ (y : Log) (e : Exponent y) where
  hi-read : R y.hi ≡ y.hi
  hi-read = back y.hi (size y.hi (omega (arith, e.most)) (omega (arith, upper_least y e)))

  lo-read : R y.lo ≡ y.lo
  lo-read = back y.lo (size y.lo (omega (arith, e.ordered.ordered, e.most, e.least)) (omega (arith, e.least)))

  wide : R y.hi -ℤ R y.lo ≡ pos (apart y.lo y.hi)
  wide =
      ap (λ (z : ℤ). z -ℤ R y.lo) hi-read ∙ ap (λ (z : ℤ). y.hi -ℤ z) lo-read
      ∙ difference y.hi y.lo _ (omega (arith, e.ordered.ordered))

  wide_read : R (R y.hi -ℤ R y.lo) ≡ pos (apart y.lo y.hi)
  wide_read = step wide (omega (arith, e.narrow.narrow))

pub returns : goal.returns
returns c =
    let e = c.requires in
    let h = rw (hi-read _ e) at c.point-upper.ensures in
    let w = rw (wide_read _ e) at c.lowered.ensures in
    interval _ e h w
