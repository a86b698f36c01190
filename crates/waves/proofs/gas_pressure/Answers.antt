-- `waves::gas_pressure` meets its contract. The size of e^ comes from one point of ln R, its upper end: there ln Px is at most 2.4.
-- Assumes nothing.
use mathlib.Core.Path.{◌≡◌, refl, ap}
use Prim.Native.Nat.{ℕ, ◌+◌, ◌*◌, ◌^◌}
use native.Mathlib.Omega.{arith}
use Rattle.span.specs.declared.Span.{Span}
use Rattle.span.specs.Enclosing as spans
use Rattle.fixed.specs.declared.Log.{Log}
use Rattle.fixed.specs.Logs.{Narrow, Small}
use Rattle.fixed.specs.Promises.{Summands, LogSum, LogDifference, LogProduct, Scaled}
use Rattle.fixed.specs.Enclosing.{constant_encloses, sum_encloses, difference_encloses, product_encloses, scaled_encloses, ratio_value, wider, larger}
use Rattle.enclosure.specs.Promises.{Exponent, Exponential}
use Rattle.enclosure.specs.Enclosing.{expo_encloses}
use Rattle.guidance.specs.Waves.{hundredths, gas_pressure}
use Rattle.waves.specs.Coefficients.{pressure_start, pressure_start_lem}
use Rattle.waves.specs.Gas.{Near, GasPressure}
use Rattle.waves.proofs.Exponents.{pressure_most, pressure_least, upper_point, upper_most, upper_least, square_small, square_scales, square_width}
use Rattle.waves.proofs.gas_pressure.Goals as goal

start_small : Small pressure_start (2 * 2 ^ 30)
start_small = record { lo_up = omega arith; lo_dn = omega arith; hi_up = omega arith; hi_dn = omega arith }

starts : {l first : Log} {i : ℕ} → Near l → Scaled i 10000 l first → i ≡ 16600 → Summands pressure_start first
starts x f i =
    record {
      left = pressure_start_lem.ordered;
      right = f.ordered;
      small_left = larger (omega arith) start_small;
      small_right = larger (omega arith) (f.small (5 * 2 ^ 30) (9 * 2 ^ 30) x.logged.small (omega arith));
    }

module _ {l first square second start : Log} {i j : ℕ} (x : Near l) (f : Scaled i 10000 l first) (p : LogProduct l l square)
    (q : Scaled j 10000 square second) (d : LogDifference pressure_start first start) (first-factor : i ≡ 16600) (second-factor : j ≡ 2600) where
  first_small : Small first (9 * 2 ^ 30)
  first_small = f.small (5 * 2 ^ 30) (9 * 2 ^ 30) x.logged.small (omega arith)

  second-small : Small second (7 * 2 ^ 30)
  second-small = q.small (26 * 2 ^ 30) (7 * 2 ^ 30) (square_small x.logged p) (omega arith)

  both_small : Small start (11 * 2 ^ 30)
  both_small = larger (omega arith) (d.small _ _ start_small first_small)

  adds : Summands start second
  adds =
      record { left = d.ordered; right = q.ordered; small_left = larger (omega arith) both_small; small_right = larger (omega arith) second-small }

  module _ {y : Log} (a : LogSum start second y) where
    y-small : Small y (18 * 2 ^ 30)
    y-small = larger (omega arith) (a.small _ _ both_small second-small)

    y-width : (W : ℕ) → Narrow l W → Narrow y (5 * W + 25)
    y-width W w =
        wider (omega arith)
        (a.width _ _
        (d.width _ _ pressure_start_lem.width (f.width W (2 * W) w (omega (arith, ap (λ (k : ℕ). W * k) first-factor))))
        (q.width _ (3 * W + 22) (square_width x.logged p W w) (omega (arith, ap (λ (k : ℕ). W * k) second-factor))))

    exponent : Exponent y
    exponent =
        record {
          ordered = a.ordered;
          narrow = wider (omega arith) (y-width _ x.logged.narrow);
          least = omega (arith, y-small.lo_dn);
          most = omega (arith, y-small.hi_up);
        }

    result : {s : Span} → Exponential y s → GasPressure l s
    unfolding gas_pressure
    result e =
        let in-l = upper_point x.logged.ordered in
        let at =
        a.holds _ _
        (d.holds _ _ pressure_start_lem.holds (f.holds _ _ (ratio_value (hundredths 166) i 10000 (omega arith)) in-l))
        (q.holds _ _ (ratio_value (hundredths 26) j 10000 (omega arith)) (p.holds _ _ in-l in-l)) in
        let most = upper_most 12 5 (omega arith) at (pressure_most l.hi x.logged.small.hi_up (omega (arith, x.near)) _) (y-width _ x.logged.narrow) in
        let least = upper_least y 10 1 (omega arith) at (pressure_least l.hi x.logged.small.hi_up _) in
        record {
          normal = e.normal;
          encloses = λ z n enough h.
              expo_encloses e enough
              (sum_encloses a
              (difference_encloses d (constant_encloses pressure_start_lem n) (scaled_encloses f (ratio_value (hundredths 166) i 10000 (omega arith)) h))
              (scaled_encloses q (ratio_value (hundredths 26) j 10000 (omega arith)) (product_encloses p h h)));
          width = λ W w. spans.wider (omega arith) (e.width _ (y-width W w));
          least = omega (arith, e.least 15 (omega (arith, least)));
          most = omega (arith, e.most 4 (omega (arith, most)));
        }

pub returns : goal.returns
returns c =
    result c.requires c.scaled-first.ensures c.mul.ensures c.scaled-second.ensures c.sub.ensures refl refl
    c.add.ensures c.expo.ensures

pub scaled-second-requires-clause-factors : goal.scaled-second-requires-clause-factors
scaled-second-requires-clause-factors c = square_scales c.requires.logged c.mul.ensures _ (omega arith)

pub sub-requires : goal.sub-requires
sub-requires c = starts c.requires c.scaled-first.ensures refl

pub add-requires : goal.add-requires
add-requires c = adds c.requires c.scaled-first.ensures c.mul.ensures c.scaled-second.ensures c.sub.ensures refl refl

pub expo-requires : goal.expo-requires
expo-requires c = exponent c.requires c.scaled-first.ensures c.mul.ensures c.scaled-second.ensures c.sub.ensures refl refl c.add.ensures
