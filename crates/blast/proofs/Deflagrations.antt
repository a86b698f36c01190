-- The deflagration figures, and the smaller of two. Assumes nothing.
use Prim.Native.Nat.{ℕ, ◌≤◌}
use mathlib.Core.Path.{◌≡◌, sym, subst, subst⁻¹, ap}
use mathlib.Core.Bool.{true, false, cond}
use native.Mathlib.Omega.{arith}
use native.Mathlib.Nat.{le_refl}
use Rattle.exact.specs.Fraction.{of_ratio}
use Rattle.exact.specs.Formula.{Formula, least}
use Rattle.std.specs.Prelude.{Option, Some}
use Rattle.span.specs.declared.Span.{Span}
use Rattle.span.specs.Spans.{Constant, Smaller}
use Rattle.span.specs.Enclosing.{Encloses, smaller_encloses, wider}
use Rattle.enclosure.specs.Promises.{enough}
use Rattle.guidance.specs.declared.Case.{Case}
use Rattle.guidance.specs.declared.Cloud.{Cloud}
use Rattle.guidance.specs.Clouds.{deflagrates}
use Rattle.guidance.specs.Distances.{nearer, cube034}
use Rattle.guidance.specs.Waves.{hundredths, thousandths, front_speed_of, front_speed, mach_number, expansion, deflagration_distance, deflagration_pressure, deflagration_impulse}
use Rattle.guidance.specs.Cases.{Fields}
use Rattle.guidance.specs.CloudWords.{CloudOf}
use Rattle.waves.specs.EndBounds.{lower_coarser, upper_coarser, constant_lower, constant_upper}
use Rattle.waves.specs.Fronts.{Mass, Front}
use Rattle.waves.specs.Deflagration.{Mach, expansion_of_lem, Deflagrating, DeflagrationPressure, DeflagrationImpulse}
use Rattle.blast.specs.declared.Flame.{Flame}
use Rattle.blast.specs.Windows.{Window, distance_window, deflagration_pressure_window, deflagration_impulse_window, smaller_window}
use Rattle.blast.specs.Promises.{Enclosure}
use Rattle.blast.specs.Intermediates.{Seen, MachSpan, DeflagrationSpan, FlameOf, BurningAt, Deflagrated}
use Rattle.blast.specs.Distance.{from_034}
use Rattle.blast.proofs.Choices.{looser, chosen, otherwise, constant_enclosure}
use Rattle.blast.proofs.Detonations.{distance_from}

-- w = V/C0

pub mass_of : {c : Case} → Fields c → Mass c.mass
mass_of f = record { least = f.mass; most = f.mass_most }

pub mach_result : {c : Case} {k : Cloud} {v w : Span} → CloudOf c k → Front (front_speed_of k.range c.mass) v → Mach v w → MachSpan c w
unfolding mach_number front_speed
mach_result {c} {k} {v} {w} h f m =
    record {
      normal = m.normal;
      encloses = λ n l. m.encloses (front_speed c) n (speed n l);
      width = wider (omega arith) (m.width 39 f.width);
      least = m.least;
      most = m.most;
    }
  where
    same : front_speed c ≡ front_speed_of k.range c.mass
    same = ap (λ (i : ℕ). front_speed_of i c.mass) (sym h.range)

    speed : (n : ℕ) → enough ≤ n → Encloses v (front_speed c) n
    speed n l = subst⁻¹ (λ (x : Formula). Encloses v x n) same (f.encloses n l)

-- 0.34 stands for Rx where Rx < 0.34

module _ {c : Case} {k : Cloud} {air : ℕ} {x : Span} (s : Seen c k air x) where
  pub nearest_distance : {q : Span} → Constant (of_ratio (hundredths 34)) 992 q → nearer cube034 air c ≡ true → DeflagrationSpan air c q
  unfolding deflagration_distance
  nearest_distance i e =
      record {
        encloses = λ n l. (chosen {w = distance_window} (nearer cube034 air c) _ _ e (constant_enclosure (hundredths 34) i (omega arith))).encloses n l;
        width = wider (omega arith) i.width;
        distance =
            record {
              normal = i.normal;
              narrow = wider (omega arith) i.width;
              near = upper_coarser (constant_upper (hundredths 34) i) (omega arith) (omega arith);
              far = lower_coarser (constant_lower (hundredths 34) i) (omega arith) (omega arith);
            };
      }

  pub true_distance : nearer cube034 air c ≡ false → DeflagrationSpan air c x
  unfolding deflagration_distance
  true_distance e =
      record {
        encloses = λ n l. (otherwise (nearer cube034 air c) _ _ e s.distance).encloses n l;
        width = s.distance.width;
        distance = distance_from s (thousandths 339) 33 100 from_034 e (omega arith);
      }

-- A deflagration by its variant

pub told_burning : {air : ℕ} {c : Case} {d : Option Flame} {f : Flame} → Deflagrated air c d → d ≡ Some f → BurningAt air c f
told_burning {air} {c} h e = subst (λ (i : Option Flame). Deflagrated air c i) e h

-- Px and Ix of a deflagration

module _ {air : ℕ} {c : Case} {f : Flame} (h : FlameOf air c f) where
  pub deflagrating : Deflagrating f.mach f.expansion f.distance
  deflagrating =
      let m = h.mach in
      let e = h.expansion in
      record {
        mach = m.normal;
        mach_narrow = wider (omega arith) m.width;
        mach_least = m.least;
        mach_most = m.most;
        expansion = e.normal;
        expansion_narrow = e.width;
        exponent = e.exponent;
        distance = h.distance.distance;
      }

  expands : (n : ℕ) → Encloses f.expansion (expansion c) n
  expands n = subst⁻¹ (λ (x : Formula). Encloses f.expansion x n) (expansion_of_lem c) (h.expansion.encloses n)

  pub deflagration_pressure_lem : {r : Span} → DeflagrationPressure f.mach f.expansion f.distance r → Enclosure (deflagration_pressure air c) deflagration_pressure_window r
  unfolding deflagration_pressure
  deflagration_pressure_lem p =
      record {
        normal = p.normal;
        encloses = λ n l. p.encloses (mach_number c) (expansion c) (deflagration_distance air c) n (h.mach.encloses n l) (expands n) (h.distance.encloses n l);
        width = wider (omega arith) (p.width _ _ h.mach.width h.distance.width);
        least = p.least;
        most = p.most;
      }

  pub deflagration_impulse_lem : {r : Span} → DeflagrationImpulse f.mach f.expansion f.distance r → Enclosure (deflagration_impulse air c) deflagration_impulse_window r
  unfolding deflagration_impulse
  deflagration_impulse_lem p =
      record {
        normal = p.normal;
        encloses = λ n l. p.encloses (mach_number c) (expansion c) (deflagration_distance air c) n (h.mach.encloses n l) (expands n) (h.distance.encloses n l);
        width = wider (omega arith) (p.width _ _ h.mach.width h.distance.width);
        least = p.least;
        most = p.most;
      }

-- The smaller of two

pub smaller_enclosure : {x y : Formula} {v w : Window} {a b r : Span} → w.width ≤ v.width → v.least ≤ w.least → Enclosure x v a → Enclosure y w b → Smaller a b r
    → Enclosure (least x y) (smaller_window v w) r
smaller_enclosure {v = v} d o h k s =
    record {
      normal = s.normal;
      encloses = λ n i. smaller_encloses s (h.encloses n i) (k.encloses n i);
      width = s.width v.width h.width (wider d k.width);
      least = omega (arith, s.exponent, h.least, k.least, o);
      most = omega (arith, s.exponent, k.most);
    }

-- One law for Px and Ix: where the case detonates, its detonation figure d alone; where it deflagrates, the smaller of f and d

module _ (c : Case) (f d : Formula) (v w : Window) (width : w.width ≤ v.width) (least_of : v.least ≤ w.least) {b : Span} (k : Enclosure d w b) where
  pub detonation_alone : deflagrates c ≡ false → Enclosure (cond (deflagrates c) (least f d) d) (smaller_window v w) b
  detonation_alone e = otherwise (deflagrates c) _ _ e (looser (record { width = width; least = least_of; most = le_refl _ }) k)

  pub smaller_of_both : {a r : Span} → deflagrates c ≡ true → Enclosure f v a → Smaller a b r → Enclosure (cond (deflagrates c) (least f d) d) (smaller_window v w) r
  smaller_of_both e h s = chosen (deflagrates c) _ _ e (smaller_enclosure width least_of h k s)
