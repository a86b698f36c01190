-- ΔP and I from reduced figures: what the calls promise, put together. Assumes nothing.
use Prim.Native.Nat.{ℕ, ◌≤◌}
use native.Mathlib.Omega.{arith}
use native.Mathlib.Nat.{mul-le-mul_right}
use Rattle.exact.specs.Fraction.{whole, of_ratio}
use Rattle.exact.specs.Formula.{Formula}
use Rattle.span.specs.declared.Span.{Span}
use Rattle.span.specs.Spans.{unit, units, hull, whole_f, Width, Constant, Whole, Factors, Product, Divisible, Quotient}
use Rattle.span.specs.Enclosing.{Encloses, constant_encloses, product_encloses, quotient_encloses, wider, divisor}
use Rattle.enclosure.specs.Promises.{enough}
use Rattle.guidance.specs.declared.Case.{Case}
use Rattle.guidance.specs.declared.Cloud.{Cloud}
use Rattle.guidance.specs.Cases.{Air}
use Rattle.guidance.specs.Clouds.{energy}
use Rattle.guidance.specs.Waves.{number, raised, third, thousandths, reduced_pressure, reduced_impulse, in_pascals, in_pascal_seconds, overpressure, impulse}
use Rattle.waves.specs.EndBounds.{LowerAtMost, UpperAtLeast, lower_coarser, normal_lower, constant_upper, product_lower, quotient_lower, enclosed_lower, enclosed_upper, exponent_most_of, exponent_least_of}
use Rattle.blast.specs.declared.Scale.{Scale}
use Rattle.blast.specs.Windows.{reduced_pressure_window, reduced_impulse_window, impulse_window}
use Rattle.blast.specs.Promises.{Enclosure, Ready, PressureSpan, ImpulseSpan}
use Rattle.blast.specs.Intermediates.{EnergySpan, Rootable, CubeRoot, EnergyRoot, ScaleOf, EnclosesSome, Pascals, PascalSeconds}
use Rattle.blast.specs.PowerBounds.{root_between}
use Rattle.blast.proofs.Reduced.{air_encloses}

-- Px·P0

module _ {air : ℕ} {x p : Span} (a : Air air) (r : EnclosesSome reduced_pressure_window x) (w : Whole air p) where
  air_least : 1009 ≤ p.e
  air_least = w.least 15 (omega (arith, a.least))

  air_most : p.e ≤ 1010
  air_most = w.most 17 (omega (arith, a.most))

  pub pressure_factors : Factors x p
  pressure_factors =
      let e = r.enclosed in
      record { left = e.normal; right = w.normal; least = omega (arith, e.least, air_least); most = omega (arith, e.most, air_most) }

  air_lower : LowerAtMost p 110000 1
  unfolding hull units whole_f
  air_lower = record { below = omega (arith, w.holds.above.cross, mul-le-mul_right unit a.most) }

  pub in_pascals_lem : {s : Span} → Product x p s → Pascals air x s
  unfolding in_pascals
  in_pascals_lem m =
      record {
        value = λ f e.
            record {
              value =
                  record {
                    normal = m.normal;
                    encloses = λ n l. product_encloses m (e.encloses n l) (air_encloses w n);
                    width = wider (omega arith) (m.width _ _ e.width w.width);
                    least = omega (arith, m.least, e.least, air_least);
                    most = omega (arith, m.most, e.most, air_most);
                  };
              lower = lower_coarser (product_lower e.normal w.normal m (normal_lower e.normal 7 e.most) air_lower) (omega arith) (omega arith);
            };
      }

-- E^(1/3)

module _ {c : Case} {k : Cloud} {air : ℕ} {e : Span} (h : Ready c k air) (en : EnergySpan k e) where
  pub energy_rootable : Rootable e
  energy_rootable =
      let j = en.energy c h.cloud in
      record { normal = j.normal; narrow = wider (omega arith) j.width; least = omega (arith, j.least); most = omega (arith, j.most) }

  module _ {t : Span} (u : CubeRoot e t) where
    root_encloses : (n : ℕ) → enough ≤ n → Encloses t (raised third (number (energy c))) n
    root_encloses n l = u.encloses _ n l ((en.energy c h.cloud).encloses n l)

    root_upper : UpperAtLeast t 23 1000
    root_upper = enclosed_upper (thousandths 23) (whole 67200) (root_encloses enough (omega arith)) (root_between h.accepted enough (omega arith))

    pub energy_root : EnergyRoot c t
    unfolding whole
    energy_root =
        record {
          root =
              record {
                normal = u.normal;
                encloses = root_encloses;
                width = u.width 11 10 (en.energy c h.cloud).width (omega arith) (omega arith);
                least = omega (arith, exponent_least_of u.normal root_upper (omega arith) 6 (omega arith));
                most = u.most;
              };
          lower = enclosed_lower (thousandths 23) (whole 67200) (root_encloses enough (omega arith)) (root_between h.accepted enough (omega arith));
        }

-- Ix·P0^(2/3)·E^(1/3)/C0

module _ {air : ℕ} {c : Case} {k : Scale} {i : Span} (h : ScaleOf air c k) (r : EnclosesSome reduced_impulse_window i) where
  pub share_factors : Factors i k.power
  share_factors =
      let e = r.enclosed in
      let p = h.power.power in
      record { left = e.normal; right = p.normal; least = omega (arith, e.least, p.least); most = omega (arith, e.most, p.most) }

  module _ {s : Span} (m : Product i k.power s) where
    share_least : 979 ≤ s.e
    share_least = omega (arith, m.least, r.enclosed.least, h.power.power.least)

    share_most : s.e ≤ 1012
    share_most = omega (arith, m.most, r.enclosed.most, h.power.power.most)

    pub all_factors : Factors s k.root
    all_factors =
        let t = h.root.root in
        record { left = m.normal; right = t.normal; least = omega (arith, share_least, t.least); most = omega (arith, share_most, t.most) }

    module _ {v y : Span} (n : Product s k.root v) (o : Constant (of_ratio (whole 340)) 1002 y) where
      pub sound_divides : Divisible v y
      sound_divides =
          let t = h.root.root in
          record {
            left = n.normal;
            right = o.normal;
            divisor = divisor o.normal o.width (omega arith);
            least = omega (arith, n.least, share_least, t.least, o.exponent);
            most = omega (arith, n.most, share_most, t.most);
          }

      module _ {z : Span} (q : Quotient v y z) where
        sound_upper : UpperAtLeast y 340 1
        unfolding whole
        sound_upper = constant_upper (whole 340) o

        at_most : LowerAtMost z 14610071 1
        at_most =
            let e = r.enclosed in
            let p = h.power in
            let t = h.root in
            lower_coarser
            (quotient_lower n.normal o.normal q
            (product_lower m.normal t.root.normal n (product_lower e.normal p.power.normal m (normal_lower e.normal 5 e.most) p.lower) t.lower)
            sound_upper)
            (omega arith) (omega arith)

        scaled : (x : Formula) → Enclosure x reduced_impulse_window i → Enclosure (in_pascal_seconds air c x) impulse_window z
        unfolding in_pascal_seconds
        scaled x e =
            let p = h.power.power in
            let t = h.root.root in
            let narrow : Width z 1550 = wider (omega arith) (q.width _ _ (n.width _ _ (m.width _ _ e.width p.width) t.width) o.width) in
            record {
              normal = q.normal;
              encloses = λ j l.
                  quotient_encloses q (product_encloses n (product_encloses m (e.encloses j l) (p.encloses j l)) (t.encloses j l)) (constant_encloses o j);
              width = narrow;
              least = omega (arith, q.least, n.least, share_least, t.least, o.exponent);
              most = exponent_most_of q.normal (wider (omega arith) narrow) at_most (omega arith) 24 (omega arith);
            }

        pub in_pascal_seconds_lem : PascalSeconds air c i z
        in_pascal_seconds_lem = record { value = λ x e. record { value = scaled x e; lower = at_most } }

-- ΔP and I

module _ (air : ℕ) (c : Case) {x s : Span} where
  pub pressure_span : Enclosure (reduced_pressure air c) reduced_pressure_window x → Pascals air x s → PressureSpan (overpressure air c) s
  unfolding overpressure
  pressure_span e p = p.value _ e

  pub impulse_span : Enclosure (reduced_impulse air c) reduced_impulse_window x → PascalSeconds air c x s → ImpulseSpan (impulse air c) s
  unfolding impulse
  impulse_span e p = p.value _ e
