-- What the detonation formulas and the figures of a deflagration take, and the detonation figures. Assumes nothing.
use Prim.Native.Nat.{ℕ, ◌*◌, ◌≤◌}
use mathlib.Core.Path.{◌≡◌, subst⁻¹, subst}
use mathlib.Core.Bool.{Bool, true, false, cond}
use native.Mathlib.Omega.{arith}
use lib.Dec.{eqb}
use borrow.Author.Tests.{eq-eqb, ne_eqb}
use Rattle.exact.specs.Fraction.{Ratio, whole, of_ratio}
use Rattle.span.specs.declared.Span.{Span}
use Rattle.span.specs.Spans.{Constant}
use Rattle.span.specs.Enclosing.{constant_encloses, wider}
use Rattle.fixed.specs.declared.Log.{Log}
use Rattle.enclosure.specs.Promises.{enough}
use Rattle.guidance.specs.declared.Case.{Case}
use Rattle.guidance.specs.declared.Cloud.{Cloud}
use Rattle.guidance.specs.Clouds.{heterogeneous}
use Rattle.guidance.specs.Distances.{nearer, cube02, cube025}
use Rattle.guidance.specs.Waves.{number, hundredths, thousandths, reduced_distance, near_field, aerosol_impulse, gas_impulse, detonation_pressure, detonation_impulse}
use Rattle.waves.specs.EndBounds.{lower_coarser, upper_coarser, enclosed_lower, enclosed_upper, constant_lower, constant_upper}
use Rattle.waves.specs.Detonation.{Distance, AerosolPressure, AerosolImpulse}
use Rattle.waves.specs.Gas.{LogDistance, GasPressure, GasImpulse}
use Rattle.blast.specs.declared.Detonation.{Detonation}
use Rattle.blast.specs.declared.Detonation.TheVariants as variants
use Rattle.blast.specs.Windows.{detonation_pressure_window, detonation_impulse_window}
use Rattle.blast.specs.Promises.{Enclosure}
use Rattle.blast.specs.Intermediates.{Seen, Detonated, NearField, HeterogeneousAt, GasAt, near_impulse}
use Rattle.blast.specs.Distance.{Threshold, distance_between, from_02, from_025}
use Rattle.blast.proofs.Choices.{chosen, otherwise, constant_enclosure}

-- The window of Rx where a test fails

module _ {c : Case} {k : Cloud} {air : ℕ} {x : Span} (s : Seen c k air x) where
  -- not nearer than T: from n/d up, for n/d at most l
  pub distance_from : {t u : Ratio} (l : Ratio) (n d : ℕ) → Threshold t u l → nearer t air c ≡ false → n * l.den ≤ l.num * d → Distance n d x
  distance_from l n d h far e =
      let b = distance_between s.ready.pressure s.ready.accepted h far enough (omega arith) in
      let i = s.distance.encloses enough (omega arith) in
      record {
        normal = s.distance.normal;
        narrow = wider (omega arith) s.distance.width;
        near = upper_coarser (enclosed_upper l (thousandths 24100) i b) l.positive e;
        far = lower_coarser (enclosed_lower l (thousandths 24100) i b) (omega arith) (omega arith);
      }

  module _ (e : near_field air c ≡ false) where
    pub away_distance : Distance 19 100 x
    unfolding near_field
    away_distance = go (heterogeneous c) e
      where
        go : (b : Bool) → cond b (nearer cube025 air c) (nearer cube02 air c) ≡ false → Distance 19 100 x
        go true e = distance_from (thousandths 249) 19 100 from_025 e (omega arith)
        go false e = distance_from (thousandths 199) 19 100 from_02 e (omega arith)

    pub log_distance : Distance 14 100 x
    log_distance =
        let d = away_distance in
        record { normal = d.normal; narrow = d.narrow; near = upper_coarser d.near (omega arith) (omega arith); far = d.far }

    pub heterogeneous_at : c.state ≡ 1 → HeterogeneousAt air c x
    heterogeneous_at t = record { away = e; state = t; distance = away_distance; value = s.distance }

    pub gas_at : {l : Log} → (c.state ≡ 1 → ⊥) → LogDistance x l → GasAt air c l
    gas_at t g =
        record {
          away = e;
          state = t;
          distance = g.near away_distance.near;
          encloses = λ n i. g.encloses _ n i (s.distance.encloses n i);
          narrow = g.width 55 s.distance.width (omega arith);
        }

-- The formula, by the variant

module _ {air : ℕ} {c : Case} {d : Detonation} where
  pub told_near : {t : ℕ} → Detonated air c d → d ≡ variants.Near t → NearField air c t
  told_near h e = subst (λ (i : Detonation). Detonated air c i) e h

  pub told_heterogeneous : {x : Span} → Detonated air c d → d ≡ variants.Heterogeneous x → HeterogeneousAt air c x
  told_heterogeneous h e = subst (λ (i : Detonation). Detonated air c i) e h

  pub told_gas : {l : Log} → Detonated air c d → d ≡ variants.Gas l → GasAt air c l
  told_gas h e = subst (λ (i : Detonation). Detonated air c i) e h

-- The two figures in the near field

module _ {air : ℕ} {c : Case} {state : ℕ} (f : NearField air c state) where
  pub near_pressure : {q : Span} → Constant (of_ratio (whole 18)) 998 q → Enclosure (detonation_pressure air c) detonation_pressure_window q
  unfolding detonation_pressure
  near_pressure i = chosen (near_field air c) _ _ f.near (constant_enclosure (whole 18) i (omega arith))

  pub near_impulse_lem : {r : Span} → Enclosure (near_impulse state) detonation_impulse_window r → Enclosure (detonation_impulse air c) detonation_impulse_window r
  unfolding detonation_impulse near_impulse
  near_impulse_lem {r} p =
      subst⁻¹
      (λ (b : Bool).
      Enclosure (cond (heterogeneous c) (cond b (number (hundredths 16)) (aerosol_impulse (reduced_distance air c))) (gas_impulse (cond b (number (thousandths 142)) (reduced_distance air c))))
      detonation_impulse_window r)
      f.near
      (subst (λ (i : ℕ). Enclosure (near_impulse i) detonation_impulse_window r) f.state p)

-- of a heterogeneous cloud

module _ {air : ℕ} {c : Case} {x r : Span} (h : HeterogeneousAt air c x) where
  pub heterogeneous_pressure : AerosolPressure x r → Enclosure (detonation_pressure air c) detonation_pressure_window r
  unfolding detonation_pressure
  heterogeneous_pressure p =
      otherwise (near_field air c) _ _ h.away
      (chosen (heterogeneous c) _ _ (eq-eqb _ _ h.state)
      (record {
        normal = p.normal;
        encloses = λ n l. p.encloses _ n (h.value.encloses n l);
        width = wider (omega arith) (p.width _ h.value.width);
        least = omega (arith, p.least);
        most = omega (arith, p.most);
      }))

  pub heterogeneous_impulse : AerosolImpulse x r → Enclosure (detonation_impulse air c) detonation_impulse_window r
  unfolding detonation_impulse
  heterogeneous_impulse p =
      chosen (heterogeneous c) _ _ (eq-eqb _ _ h.state)
      (otherwise (near_field air c) _ _ h.away
      (record {
        normal = p.normal;
        encloses = λ n l. p.encloses _ n (h.value.encloses n l);
        width = wider (omega arith) (p.width _ h.value.width);
        least = omega (arith, p.least);
        most = omega (arith, p.most);
      }))

-- of a gas

module _ {air : ℕ} {c : Case} {l : Log} {r : Span} (h : GasAt air c l) where
  pub gas_pressure_lem : GasPressure l r → Enclosure (detonation_pressure air c) detonation_pressure_window r
  unfolding detonation_pressure
  gas_pressure_lem p =
      otherwise (near_field air c) _ _ h.away
      (otherwise (heterogeneous c) _ _ (ne_eqb _ _ h.state)
      (record {
        normal = p.normal;
        encloses = λ n i. p.encloses _ n i (h.encloses n i);
        width = wider (omega arith) (p.width _ h.narrow);
        least = p.least;
        most = p.most;
      }))

  pub gas_impulse_lem : GasImpulse l r → Enclosure (detonation_impulse air c) detonation_impulse_window r
  unfolding detonation_impulse
  gas_impulse_lem p =
      otherwise (heterogeneous c) _ _ (ne_eqb _ _ h.state)
      (subst⁻¹ (λ (b : Bool). Enclosure (gas_impulse (cond b (number (thousandths 142)) (reduced_distance air c))) detonation_impulse_window r) h.away
      (record {
        normal = p.normal;
        encloses = λ n i. p.encloses _ n i (h.encloses n i);
        width = wider (omega arith) (p.width _ h.narrow);
        least = p.least;
        most = p.most;
      }))

-- Ix of the near field: 0.16, and that of a gas at 0.142

pub near_aerosol_result : {state : ℕ} {q : Span} → Constant (of_ratio (hundredths 16)) 991 q → state ≡ 1 → Enclosure (near_impulse state) detonation_impulse_window q
unfolding near_impulse
near_aerosol_result {state} i t =
    chosen (eqb state 1) _ _ (eq-eqb _ _ t) (constant_enclosure (hundredths 16) i (omega arith))

module _ {q : Span} (i : Constant (of_ratio (thousandths 142)) 991 q) where
  pub near_gas_distance : Distance 14 100 q
  near_gas_distance =
      record {
        normal = i.normal;
        narrow = wider (omega arith) i.width;
        near = upper_coarser (constant_upper (thousandths 142) i) (omega arith) (omega arith);
        far = lower_coarser (constant_lower (thousandths 142) i) (omega arith) (omega arith);
      }

  pub near_gas_result : {state : ℕ} {l : Log} {r : Span} → (state ≡ 1 → ⊥) → LogDistance q l → GasImpulse l r → Enclosure (near_impulse state) detonation_impulse_window r
  unfolding near_impulse
  near_gas_result {state} t g p =
      otherwise (eqb state 1) _ _ (ne_eqb _ _ t)
      (record {
        normal = p.normal;
        encloses = λ n h. p.encloses _ n h (g.encloses _ n h (constant_encloses i n));
        width = wider (omega arith) (p.width 19 (g.width 1 i.width (omega arith)));
        least = p.least;
        most = p.most;
      })
