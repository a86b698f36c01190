-- Cube roots, and P0^(2/3): what the calls promise, put together. Assumes nothing.
use Prim.Native.Nat.{ℕ, ◌+◌, ◌*◌, ◌≤◌}
use mathlib.Core.Path.{◌≡◌, subst⁻¹}
use native.Mathlib.Omega.{arith}
use native.Mathlib.Nat.{mul-le-mul_right}
use Rattle.exact.specs.Fraction.{whole, of_ratio}
use Rattle.span.specs.declared.Span.{Span}
use Rattle.span.specs.Spans.{whole_f, Normal, Width, Whole}
use Rattle.span.specs.Enclosing.{Encloses, whole_encloses, wider}
use Rattle.enclosure.specs.Promises.{enough, Powerable, SixthPower}
use Rattle.enclosure.specs.PowerWindows.{PowerIn, power_enclosed, power_narrow}
use Rattle.guidance.specs.Waves.{number, raised, third, two_thirds}
use Rattle.guidance.specs.Cases.{Air}
use Rattle.waves.specs.EndBounds.{LowerAtMost, UpperAtLeast, enclosed_lower, enclosed_upper, exponent_most_of}
use Rattle.blast.specs.PowerBounds.{air_reached, air_between}
use Rattle.blast.specs.Exponents.{exponent_from}
use Rattle.blast.specs.Intermediates.{Rootable, CubeRoot, AirPower}

-- Cube roots

module _ {t : Span} (s : Rootable t) where
  pub root_powerable : (p : ℕ) → p ≤ 6 → Powerable t p
  root_powerable p i = omega (arith, s.narrow, i)

  -- p sixths are a third
  pub root_result : {p : ℕ} {r : Span} → 1 * 6 ≡ p * 3 → SixthPower t p r → CubeRoot t r
  root_result {p} i x =
      let two : p ≤ 2 = omega (arith, i) in
      let far : 993 ≤ t.e + 67 = omega (arith, s.least) in
      let near : t.e ≤ 994 + 67 = omega (arith, s.most) in
      record {
        normal = x.normal;
        encloses = x.encloses third i;
        width = λ D U w d e. x.width D U w (omega (arith, d)) (omega (arith, e, mul-le-mul_right (D + 18) two));
        least = omega (arith, x.least 67 23 far near (omega (arith, i)));
        most = omega (arith, x.most 67 23 far near (omega (arith, i)));
      }

-- P0^(2/3)

module _ {air : ℕ} {r : Span} (a : Air air) (normal : Normal r) (narrow : Width r 45)
    (encloses : (n : ℕ) → enough ≤ n → Encloses r (raised two_thirds (number (whole air))) n) where
  at_most : LowerAtMost r 2310 1
  unfolding whole
  at_most = enclosed_lower (whole 1290) (whole 2310) (encloses enough (omega arith)) (air_between air a enough (omega arith))

  at_least : UpperAtLeast r 1290 1
  unfolding whole
  at_least = enclosed_upper (whole 1290) (whole 2310) (encloses enough (omega arith)) (air_between air a enough (omega arith))

  placed_power : AirPower air r
  placed_power =
      record {
        power =
            record {
              normal = normal;
              encloses = encloses;
              width = narrow;
              least = exponent_from normal 10 (omega (arith, at_least.above));
              most = exponent_most_of normal (wider (omega arith) narrow) at_most (omega arith) 12 (omega arith);
            };
        lower = at_most;
      }

-- at one pressure, in a span of the source
pub standard_result : {air t j : ℕ} {r : Span} → Air air → air ≡ t → PowerIn two_thirds (whole t) j r → AirPower air r
standard_result {j = j} {r = r} a e h =
    let here = subst⁻¹ (λ (i : ℕ). PowerIn two_thirds (whole i) j r) e h in
    placed_power a h.normal (wider (omega arith) (power_narrow h)) (λ n l. power_enclosed (air_reached a) here n (omega arith))

module _ {air : ℕ} {p : Span} (a : Air air) (w : Whole air p) where
  pub air_powerable : (q : ℕ) → q ≤ 6 → Powerable p q
  air_powerable q i =
      record {
        normal = w.normal;
        narrow = wider (omega arith) w.width;
        least = omega (arith, w.least 15 (omega (arith, a.least)));
        most = omega (arith, w.most 17 (omega (arith, a.most)));
        sixths = i;
      }

  -- q sixths are two thirds
  pub air_result : {q : ℕ} {r : Span} → 2 * 6 ≡ q * 3 → SixthPower p q r → AirPower air r
  unfolding whole of_ratio whole_f
  air_result i x =
      placed_power a x.normal (x.width 2 14 w.width (omega arith) (omega (arith, i))) (λ n e. x.encloses two_thirds i _ n e (whole_encloses w n))
