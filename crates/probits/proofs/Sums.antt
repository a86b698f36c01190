-- The sums under the logarithms of Pr1, Pr2, Pr3 and Pr5, and the probits over them. Assumes nothing.
use Prim.Native.Nat.{ℕ, ◌≤◌}
use native.Mathlib.Omega.{arith}
use lib.IntN.{ℤ}
use Rattle.span.specs.declared.Span.{Span}
use Rattle.span.specs.Spans.{Width, Whole, Product, Divisible, Quotient, Summands, Sum}
use Rattle.span.specs.Enclosing.{constant_encloses, product_encloses, quotient_encloses, sum_encloses, divisor, wider}
use Rattle.guidance.specs.Waves.{hundredths, third}
use Rattle.guidance.specs.Probits.{probit1_at, probit2_at, probit3_at, probit5_at}
use Rattle.probits.specs.declared.coefficients.Strength.{Strength}
use Rattle.probits.specs.Promises.{Loaded, ProbitOf}
use Rattle.probits.specs.Terms.{RatioPower, Root, AirRoot, Summed, FallingProbit, Withstood, Resistance, Lunged, LungPressure}
use Rattle.probits.specs.Coefficients.{at, weak, strong, weak_pressure, weak_impulse, strong_pressure, strong_impulse, lung_pressure, one, lung_impulse, throw_pressure, throw_impulse}
use Rattle.probits.proofs.Powers.{whole_number}

-- two powers
pub withstood : {w : Strength} {p i a b s : Span} {l u : ℤ} → RatioPower w.pressure p w.pressure_tenths a → RatioPower w.impulse i w.impulse_tenths b
    → Sum a b s → FallingProbit s w.factor l u → Withstood w p i l u
withstood x y v f =
    record {
      holds = λ q c d z w n e o g h j k. f.holds q _ n e o (sum_encloses v (x.encloses _ _ n o g j) (y.encloses _ _ n o h k));
      closed = f.closed;
    }

pub probit1_of : {p i : Span} {l u : ℤ} → Withstood weak p i l u → ProbitOf probit1_at p i l u
unfolding probit1_at
probit1_of r =
    record {
      holds = λ z w n o h k.
          r.holds (hundredths 26) _ _ z w n (omega arith) o (constant_encloses weak_pressure n) (constant_encloses weak_impulse n) h k;
      closed = r.closed;
    }

pub probit2_of : {p i : Span} {l u : ℤ} → Withstood strong p i l u → ProbitOf probit2_at p i l u
unfolding probit2_at
probit2_of r =
    record {
      holds = λ z w n o h k.
          r.holds (hundredths 22) _ _ z w n (omega arith) o (constant_encloses strong_pressure n) (constant_encloses strong_impulse n) h k;
      closed = r.closed;
    }

-- 4.2/(1 + ΔP/P0)
module _ {p : Span} {air : ℕ} (m : Lunged p air) {w : Span} (a : Whole air w) where
  air_least : 1009 ≤ w.e
  air_least = a.least 15 (omega (arith, m.within.least))

  air_most : w.e ≤ 1010
  air_most = a.most 17 (omega (arith, m.within.most))

  pub lung_divides : Divisible p w
  lung_divides =
      record {
        left = m.pressure.normal;
        right = a.normal;
        divisor = divisor a.normal a.width (omega arith);
        least = omega (arith, air_most, m.pressure.least);
        most = omega (arith, m.pressure.most);
      }

  module _ {q : Span} (d : Quotient p w q) where
    pub lung_summands : Summands (at 1073741824 1073741824 994) q
    lung_summands =
        record {
          left = one.normal;
          right = d.normal;
          least_left = omega arith;
          least_right = omega (arith, air_most, m.pressure.least, d.least);
          most_left = omega arith;
          most_right = omega (arith, air_least, m.pressure.most, d.most);
        }

    module _ {t : Span} (v : Sum (at 1073741824 1073741824 994) q t) where
      wide : Width t 2058
      wide = v.width 2054 (wider (omega arith) one.width) (d.width 2048 2 m.pressure.narrow a.width)

      most : t.e ≤ 1013
      most = omega (arith, air_least, m.pressure.most, d.most, v.most)

      pub lung_divides_again : Divisible (at 1127428915 1127428916 996) t
      lung_divides_again =
          record {
            left = lung_pressure.normal;
            right = v.normal;
            divisor = divisor v.normal wide (omega arith);
            least = omega (arith, most);
            most = omega arith;
          }

      pub lung_of : {r : Span} → Quotient (at 1127428915 1127428916 996) t r → LungPressure p air r
      lung_of e =
          record {
            normal = e.normal;
            encloses = λ x n h.
                quotient_encloses e (constant_encloses lung_pressure n)
                (sum_encloses v (constant_encloses one n) (quotient_encloses d h (whole_number a n)));
            width = wider (omega arith) (e.width 1 2058 lung_pressure.width wide);
            least = omega (arith, most, e.least);
            most = omega (arith, v.least_left, e.most);
          }

-- 1.3·P0^(1/2)·m^(1/3)
pub resistance_of : {air body : ℕ} {a b c r : Span} → AirRoot air a → Root body 2 b → Product (at 1395864371 1395864372 994) a c → Product c b r → Resistance air body r
resistance_of x y u v =
    record {
      normal = v.normal;
      encloses = λ n o.
          product_encloses v (product_encloses u (constant_encloses lung_impulse n) (x.encloses n o)) (y.encloses third n (omega arith) o);
      width = wider (omega arith) (v.width 63 60 (u.width 1 60 lung_impulse.width x.width) y.width);
      least = omega (arith, x.least, y.least, u.least, v.least);
      most = omega (arith, x.most, y.most, u.most, v.most);
    }

module _ {p i : Span} (m : Loaded p i) where
  module _ {air body : ℕ} {a b c : Span} (x : LungPressure p air a) (y : Resistance air body c) (d : Quotient c i b) where
    pub lung_summed : {s : Span} → Sum a b s → Summed s 57400
    lung_summed v =
        record {
          normal = v.normal;
          narrow = wider (omega arith) (v.width 2252 (wider (omega arith) x.width) (d.width 200 2048 y.width m.impulse.narrow));
          least = omega (arith, x.least, v.least_left);
          most = omega (arith, x.most, y.most, m.impulse.least, d.most, v.most);
          factor = omega arith;
        }

    pub probit3_of : {s : Span} {l u : ℤ} → Sum a b s → FallingProbit s 57400 l u → ProbitOf (probit3_at air body) p i l u
    unfolding probit3_at
    probit3_of v f =
        record {
          holds = λ z w n o h k.
              f.holds (hundredths 574) _ n (omega arith) o (sum_encloses v (x.encloses z n h) (quotient_encloses d (y.encloses n o) k));
          closed = f.closed;
        }

  -- 7380/ΔP + 1,300,000,000/(ΔP·I)
  module _ {a q : Span} (x : Quotient (at 1934622720 1934622720 1006) p a) (y : Product p i q) where
    both : Width q 4098
    both = y.width 2048 2048 m.pressure.narrow m.impulse.narrow

    pub throw_divides : Divisible (at 1300000000 1300000000 1024) q
    throw_divides =
        record {
          left = throw_impulse.normal;
          right = y.normal;
          divisor = divisor y.normal both (omega arith);
          least = omega (arith, m.pressure.most, m.impulse.most, y.most);
          most = omega arith;
        }

    pub throw_summed : {b s : Span} → Quotient (at 1300000000 1300000000 1024) q b → Sum a b s → Summed s 24400
    throw_summed d v =
        record {
          normal = v.normal;
          narrow =
              wider (omega arith)
              (v.width 4103 (wider (omega arith) (x.width 1 2048 throw_pressure.width m.pressure.narrow)) (d.width 1 4098 throw_impulse.width both));
          least = omega (arith, m.pressure.most, x.least, v.least_left);
          most = omega (arith, m.pressure.least, m.impulse.least, x.most, y.least, d.most, v.most);
          factor = omega arith;
        }

    pub probit5_of : {b s : Span} {l u : ℤ} → Quotient (at 1300000000 1300000000 1024) q b → Sum a b s → FallingProbit s 24400 l u → ProbitOf probit5_at p i l u
    unfolding probit5_at
    probit5_of d v f =
        record {
          holds = λ z w n o h k.
              f.holds (hundredths 244) _ n (omega arith) o
              (sum_encloses v (quotient_encloses x (constant_encloses throw_pressure n) h)
              (quotient_encloses d (constant_encloses throw_impulse n) (product_encloses y h k)));
          closed = f.closed;
        }
