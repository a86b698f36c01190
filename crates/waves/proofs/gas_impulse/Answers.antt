-- `waves::gas_impulse` meets its contract. The size of e^ comes from one point of ln R, its upper end: there ln Ix is at most 1.25.
-- Assumes nothing.
use mathlib.Core.Path.{◌≡◌, refl, ap}
use Prim.Native.Nat.{ℕ, ◌+◌, ◌*◌, ◌^◌}
use native.Mathlib.Omega.{arith}
use Rattle.span.specs.declared.Span.{Span}
use Rattle.span.specs.Enclosing as spans
use Rattle.fixed.specs.declared.Log.{Log}
use Rattle.fixed.specs.Logs.{Narrow, Small}
use Rattle.fixed.specs.Promises.{Summands, LogDifference, LogProduct, Scaled}
use Rattle.fixed.specs.Enclosing.{constant_encloses, difference_encloses, product_encloses, scaled_encloses, ratio_value, wider, larger}
use Rattle.enclosure.specs.Promises.{Exponent, Exponential}
use Rattle.enclosure.specs.Enclosing.{expo_encloses}
use Rattle.guidance.specs.Waves.{thousandths, ten_thousandths, gas_impulse}
use Rattle.waves.specs.Coefficients.{impulse_start, impulse_start_lem}
use Rattle.waves.specs.Gas.{Logged, GasImpulse}
use Rattle.waves.proofs.Exponents.{impulse_most, impulse_least, upper_point, upper_most, upper_least, square_small, square_scales, square_width}
use Rattle.waves.proofs.gas_impulse.Goals as goal

start_small : Small impulse_start (4 * 2 ^ 30)
start_small = record { lo_up = omega arith; lo_dn = omega arith; hi_up = omega arith; hi_dn = omega arith }

starts : {l first : Log} {i : ℕ} → Logged l → Scaled i 10000 l first → i ≡ 8980 → Summands impulse_start first
starts x f i =
    record {
      left = impulse_start_lem.ordered;
      right = f.ordered;
      small_left = larger (omega arith) start_small;
      small_right = larger (omega arith) (f.small (5 * 2 ^ 30) (5 * 2 ^ 30) x.small (omega arith));
    }

module _ {l first square second start : Log} {i j : ℕ} (x : Logged l) (f : Scaled i 10000 l first) (p : LogProduct l l square)
    (q : Scaled j 10000 square second) (d : LogDifference impulse_start first start) (first-factor : i ≡ 8980) (second-factor : j ≡ 96) where
  first_small : Small first (5 * 2 ^ 30)
  first_small = f.small (5 * 2 ^ 30) (5 * 2 ^ 30) x.small (omega arith)

  second-small : Small second (2 ^ 30)
  second-small = q.small (26 * 2 ^ 30) (2 ^ 30) (square_small x p) (omega arith)

  both_small : Small start (9 * 2 ^ 30)
  both_small = larger (omega arith) (d.small _ _ start_small first_small)

  rest : Summands start second
  rest =
      record { left = d.ordered; right = q.ordered; small_left = larger (omega arith) both_small; small_right = larger (omega arith) second-small }

  module _ {y : Log} (a : LogDifference start second y) where
    y-small : Small y (18 * 2 ^ 30)
    y-small = larger (omega arith) (a.small _ _ both_small second-small)

    y-width : (W : ℕ) → Narrow l W → Narrow y (2 * W + 4)
    y-width W w =
        wider (omega arith)
        (a.width _ _
        (d.width _ _ impulse_start_lem.width (f.width W W w (omega (arith, ap (λ (k : ℕ). W * k) first-factor))))
        (q.width _ (W + 1) (square_width x p W w) (omega (arith, ap (λ (k : ℕ). W * k) second-factor))))

    exponent : Exponent y
    exponent =
        record {
          ordered = a.ordered;
          narrow = wider (omega arith) (y-width _ x.narrow);
          least = omega (arith, y-small.lo_dn);
          most = omega (arith, y-small.hi_up);
        }

    result : {s : Span} → Exponential y s → GasImpulse l s
    unfolding gas_impulse
    result e =
        let in-l = upper_point x.ordered in
        let at =
        a.holds _ _
        (d.holds _ _ impulse_start_lem.holds (f.holds _ _ (ratio_value (thousandths 898) i 10000 (omega arith)) in-l))
        (q.holds _ _ (ratio_value (ten_thousandths 96) j 10000 (omega arith)) (p.holds _ _ in-l in-l)) in
        let most = upper_most 5 4 (omega arith) at (impulse_most l.hi x.small.hi_up x.small.hi_dn _) (y-width _ x.narrow) in
        let least = upper_least y 9 1 (omega arith) at (impulse_least l.hi x.small.hi_up x.small.hi_dn _) in
        record {
          normal = e.normal;
          encloses = λ z n enough h.
              expo_encloses e enough
              (difference_encloses a
              (difference_encloses d (constant_encloses impulse_start_lem n) (scaled_encloses f (ratio_value (thousandths 898) i 10000 (omega arith)) h))
              (scaled_encloses q (ratio_value (ten_thousandths 96) j 10000 (omega arith)) (product_encloses p h h)));
          width = λ W w. spans.wider (omega arith) (e.width _ (y-width W w));
          least = omega (arith, e.least 13 (omega (arith, least)));
          most = omega (arith, e.most 2 (omega (arith, most)));
        }

pub returns : goal.returns
returns c =
    result c.requires c.scaled-first.ensures c.mul.ensures c.scaled-second.ensures c.sub.ensures refl refl
    c.sub-2.ensures c.expo.ensures

pub scaled-second-requires-clause-factors : goal.scaled-second-requires-clause-factors
scaled-second-requires-clause-factors c = square_scales c.requires c.mul.ensures _ (omega arith)

pub sub-requires : goal.sub-requires
sub-requires c = starts c.requires c.scaled-first.ensures refl

pub sub-requires-2 : goal.sub-requires-2
sub-requires-2 c = rest c.requires c.scaled-first.ensures c.mul.ensures c.scaled-second.ensures c.sub.ensures refl refl

pub expo-requires : goal.expo-requires
expo-requires c = exponent c.requires c.scaled-first.ensures c.mul.ensures c.scaled-second.ensures c.sub.ensures refl refl c.sub-2.ensures
