-- Powers and roots by ln, a multiple and e^: windows, widths and what they enclose, from the promises of the calls. Assumes nothing.
use mathlib.Core.Path.{◌≡◌, subst⁻¹}
use Prim.Native.Nat.{ℕ, ◌+◌, ◌*◌, ◌≤◌}
use native.Mathlib.Omega.{arith}
use Rattle.exact.specs.Fraction.{whole, of_ratio}
use Rattle.exact.specs.Formula.{const}
use Rattle.exact.proofs.laws.Inclusion.{const_inside}
use Rattle.span.specs.declared.Span.{Span}
use Rattle.span.specs.Spans.{hull, whole_f, Width, Whole, Quotient}
use Rattle.span.specs.Enclosing.{Encloses, quotient_encloses, divisor, wider}
use Rattle.fixed.specs.declared.Log.{Log}
use Rattle.fixed.specs.Logs.{Narrow, Small}
use Rattle.fixed.specs.Promises.{Scalable, Scaled}
use Rattle.fixed.specs.Enclosing.{scaled_encloses, ratio_value, larger, wider as narrower}
use Rattle.enclosure.specs.Promises.{reach, Loggable, Logarithm, Exponent, Exponential, Powerable, SixthPower}
use Rattle.enclosure.specs.Enclosing.{logarithm_encloses, expo_encloses, logarithm_small}
use Rattle.enclosure.specs.PowerWindows.{PowerIn, whole_reached, power_enclosed, power_narrow}
use Rattle.guidance.specs.Cases.{Air}
use Rattle.guidance.specs.Waves.{tenths, half}
use Rattle.probits.specs.Terms.{Based, RatioPower, Rootable, Root, AirRoot}

-- a whole number as the guidance writes it
pub whole_number : {m : ℕ} {r : Span} → Whole m r → (n : ℕ) → Encloses r (const (of_ratio (whole m))) n
unfolding whole_f of_ratio whole
whole_number {m} {r} w n =
    record {
      inside =
          const_inside (of_ratio (whole m)) n (hull r)
          (record { above = record { cross = omega (arith, w.holds.above.cross) }; below = record { cross = omega (arith, w.holds.below.cross) } });
    }

-- (a/x)^(t/10)
module _ {a x : Span} {t : ℕ} (b : Based a x t) {q : Span} (p : Quotient a x q) where
  quotient_width : Width q 2053
  quotient_width = p.width 1 2048 b.exact b.narrow

  pub quotient_loggable : Loggable q
  quotient_loggable =
      record { normal = p.normal; far = divisor p.normal quotient_width (omega arith); most = omega (arith, b.most, b.lower, p.most) }

  module _ {l : Log} (g : Logarithm q l) where
    small : Small l (reach 60 + 2053 + 18)
    small = logarithm_small 60 g quotient_width (omega arith) (omega (arith, b.least, b.upper, p.least)) (omega (arith, b.most, b.lower, p.most))

    pub quotient_scalable : Scalable (1000 * t) l
    quotient_scalable = record { left = g.ordered; small = larger (omega arith) small; factor = omega (arith, b.tenths) }

    module _ {y : Log} (s : Scaled (1000 * t) 10000 l y) where
      narrow : Narrow y 23404
      narrow = s.width 2071 23403 (g.width 2053 quotient_width (omega arith)) (omega (arith, b.tenths))

      scaled_small : Small y 513709023366
      scaled_small = s.small (reach 60 + 2053 + 18) 513709023366 small (omega (arith, b.tenths))

      pub power_exponent : Exponent y
      power_exponent =
          record {
            ordered = s.ordered;
            narrow = narrower (omega arith) narrow;
            least = omega (arith, scaled_small.lo_dn);
            most = omega (arith, scaled_small.hi_up);
          }

      pub ratio_power : {r : Span} → Exponential y r → RatioPower a x t r
      ratio_power e =
          record {
            normal = e.normal;
            encloses = λ u v n o h k.
                expo_encloses e o (scaled_encloses s (ratio_value (tenths t) (1000 * t) 10000 (omega arith)) (logarithm_encloses g o (quotient_encloses p h k)));
            width = wider (omega arith) (e.width 23404 narrow);
            least = omega (arith, e.least 691 (omega (arith, scaled_small.hi_dn)));
            most = omega (arith, e.most 691 (omega (arith, scaled_small.hi_up)));
          }

-- n^(p/6)
module _ {n p : ℕ} (b : Rootable n p) {a : Span} (w : Whole n a) where
  least : 994 ≤ a.e
  least = w.least 0 b.least

  most : a.e ≤ 1010
  most = w.most 17 b.most

  pub root_powerable : Powerable a p
  root_powerable =
      record { normal = w.normal; narrow = wider (omega arith) w.width; least = omega (arith, least); most = omega (arith, most); sixths = omega (arith, b.sixths) }

  pub root_of : {r : Span} → SixthPower a p r → Root n p r
  root_of e =
      record {
        normal = e.normal;
        encloses = λ q m i o. e.encloses q i _ m o (whole_number w m);
        width = wider (omega arith) (e.width 2 10 w.width (omega arith) (omega (arith, b.sixths)));
        least = omega (arith, e.least 17 10 (omega (arith, least)) (omega (arith, most)) (omega (arith, b.sixths)));
        most = omega (arith, e.most 17 10 (omega (arith, least)) (omega (arith, most)) (omega (arith, b.sixths)));
      }

-- P0^(1/2)

-- p sixths are a half
pub air_root : {air p : ℕ} {r : Span} → 1 * 6 ≡ p * 2 → Root air p r → AirRoot air r
air_root e x = record { normal = x.normal; encloses = λ n l. x.encloses half n e l; width = x.width; least = x.least; most = x.most }

-- at one pressure, in a span of the source
pub standard_root : {air t j : ℕ} {r : Span} → Air air → air ≡ t → PowerIn half (whole t) j r → 980 ≤ r.e → r.e ≤ 1010 → AirRoot air r
standard_root {air} {j = j} {r = r} a e h l m =
    let here = subst⁻¹ (λ (i : ℕ). PowerIn half (whole i) j r) e h in
    let reached = whole_reached half air 17 9 (omega (arith, a.least)) (omega (arith, a.most)) (omega arith) in
    record { normal = h.normal; encloses = λ n k. power_enclosed reached here n (omega arith); width = wider (omega arith) (power_narrow h); least = l; most = m }
