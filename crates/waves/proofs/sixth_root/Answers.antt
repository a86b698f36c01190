-- `waves::sixth_root` meets its contract. That the root lies from 1/4 to 11 comes from whole powers: 0.3^6 ≤ M ≤ 10^6.
-- Assumes nothing.
use Prim.Native.Nat.{ℕ, ◌*◌, ◌≤◌}
use mathlib.Core.Path.{◌≡◌, refl}
use mathlib.Core.Option.{some}
use native.Mathlib.Omega.{arith}
use Rattle.exact.specs.Fraction.{Ratio, whole, ◌⊕◌, ◌⊗◌, ◌⊖◌, power, of_ratio}
use Rattle.exact.specs.Series.{one_over}
use Rattle.exact.specs.Formula.{bracket_at}
use Rattle.exact.specs.laws.Containment.{Inside}
use Rattle.exact.proofs.laws.Points.{pair}
use Rattle.exact.specs.laws.Width.{half}
use Rattle.span.specs.declared.Span.{Span}
use Rattle.span.specs.Spans.{fraction, FractionOf}
use Rattle.span.specs.Enclosing.{Encloses, fraction_encloses, wider}
use Rattle.enclosure.specs.Promises.{enough, Powerable, SixthPower}
use Rattle.enclosure.specs.PowerWindows.{Reached, Bounded, power_between}
use Rattle.guidance.specs.Clouds.{over}
use Rattle.guidance.specs.Waves.{number, raised, sixth, tenths, kilograms}
use Rattle.waves.specs.EndBounds.{enclosed_lower, enclosed_upper, exponent_least_of}
use Rattle.waves.specs.Fronts.{Mass, SixthRoot}
use Rattle.waves.proofs.sixth_root.Goals as goal

quarter : Ratio
quarter = over 1 4 (omega arith)

module _ {mass : ℕ} (x : Mass mass) where
  reached : Reached sixth (kilograms mass) 20 4
  unfolding whole ◌⊗◌
  reached =
      record {
        above = record { above = omega (arith, x.least) };
        most = record { cross = omega (arith, x.most) };
        least = record { cross = omega (arith, x.least) };
        octaves = record { cross = omega arith };
      }

  bounded : Bounded sixth (kilograms mass) 10 (tenths 3) (whole 10) quarter (whole 11)
  unfolding quarter half one_over power whole ◌⊕◌ ◌⊖◌ ◌⊗◌
  bounded =
      record {
        from = record { cross = omega (arith, x.least) };
        to = record { cross = omega (arith, x.most) };
        lower = record { cross = omega arith };
        upper = record { cross = omega arith };
      }

  between : Inside (bracket_at (raised sixth (number (kilograms mass))) enough) (some (pair (of_ratio quarter) (of_ratio (whole 11))))
  between = power_between 10 (omega arith) reached bounded enough (omega arith)

  module _ {m : Span} (f : FractionOf mass 1000 m) where
    powerable : (p : ℕ) → p ≤ 6 → Powerable m p
    powerable p h =
        record {
          normal = f.normal;
          narrow = wider (omega arith) f.width;
          least = omega (arith, f.least 0 10 (omega (arith, x.least)) (omega arith));
          most = omega (arith, f.most 30 9 (omega (arith, x.most)) (omega arith));
          sixths = h;
        }

    -- p sixths are one
    module _ {p : ℕ} {v : Span} (one : 1 * 6 ≡ p * 6) (e : SixthPower m p v) where
      encloses : (n : ℕ) → enough ≤ n → Encloses v (raised sixth (number (kilograms mass))) n
      unfolding of_ratio fraction
      encloses n h = e.encloses sixth one _ n h (fraction_encloses f (kilograms mass).positive n)

      result : SixthRoot mass v
      unfolding whole quarter
      result =
          let up = enclosed_upper quarter (whole 11) (encloses enough (omega arith)) between in
          let far = exponent_least_of e.normal up (omega arith) 2 (omega arith) in
          record {
            normal = e.normal;
            encloses = encloses;
            width = e.width 8 5 f.width (omega arith) (omega (arith, one));
            least = omega (arith, far);
            most = enclosed_lower quarter (whole 11) (encloses enough (omega arith)) between;
          }

pub sixth_power-requires : goal.sixth_power-requires
sixth_power-requires c =
    powerable c.requires c.fraction-m.ensures _ (omega arith)

pub returns : goal.returns
returns c =
    result c.requires c.fraction-m.ensures refl c.sixth_power.ensures
