-- What a case keeps when its distance is replaced; it is never beyond at 1 cm; being beyond goes on with the distance. Assumes nothing.
use Rattle.std.specs.Prelude.{ℕ, ◌*◌, ◌≤◌, ◌≡◌, refl, Bool, true, false}
use Rattle.std.proofs.Common.{sym, ◌∙◌, subst, mul-le-mul, mul-le-mul_right, arith}
use Rattle.exact.specs.Fraction.{Ratio, ◌≼◌, whole, ◌⊗◌, power}
use Rattle.exact.proofs.laws.Ratio.{≼_trans}
use Rattle.guidance.specs.declared.Case.{Case}
use Rattle.guidance.specs.declared.Cloud.{Cloud}
use Rattle.guidance.specs.Clouds.{range_of, ground_factor, lean_factor, aerosol_factor, energy}
use Rattle.guidance.specs.Distances.{metres, cubed, farther, cube24}
use Rattle.guidance.specs.Cases.{Air, Fields}
use Rattle.guidance.specs.CloudWords.{Heated, CloudOf, Placed, joules_of, parts_of}
use Rattle.guidance.proofs.laws.Domain.{least_energy, energy_least, not_farther}
use Rattle.guidance.proofs.laws.Order.{not-less}
use Rattle.receptor.specs.Receptor.{moved}

-- a distance that a frame may have
pub record Permitted (d : ℕ) : Type 0 where
  pub least : 1 ≤ d
  pub most : d ≤ 1000000

pub fields_moved : {c : Case} {d : ℕ} → Fields c → Permitted d → Fields (moved c d)
unfolding moved
fields_moved f p =
    record {
      substance = f.substance;
      state = f.state;
      placement = f.placement;
      surroundings = f.surroundings;
      surroundings_most = f.surroundings_most;
      mass = f.mass;
      mass_most = f.mass_most;
      mean = f.mean;
      mean_most = f.mean_most;
      stoichiometric = f.stoichiometric;
      stoichiometric_most = f.stoichiometric_most;
      heat_most = f.heat_most;
      distance = p.least;
      distance_most = p.most;
      body = f.body;
      body_most = f.body_most;
      air = f.air;
      air_most = f.air_most;
    }

pub heated_moved : {c : Case} {d : ℕ} → Heated c → Permitted d → Heated (moved c d)
unfolding moved
heated_moved h p = record { fields = fields_moved h.fields p; heat = h.heat }

pub energy_moved : (c : Case) (d : ℕ) → energy (moved c d) ≡ energy c
unfolding energy ground_factor lean_factor aerosol_factor range_of moved
energy_moved c d = refl

pub cloud_moved : {c : Case} {k : Cloud} (d : ℕ) → CloudOf c k → CloudOf (moved c d) k
unfolding energy ground_factor lean_factor aerosol_factor range_of joules_of parts_of moved
cloud_moved d w =
    record {
      range = w.range;
      aerosol = w.aerosol;
      joules_is = w.joules_is;
      parts_is = w.parts_is;
      joules = w.joules;
      joules_most = w.joules_most;
      parts = w.parts;
      parts_most = w.parts_most;
      energy = w.energy;
    }

pub placed_moved : {c : Case} {k : Cloud} {air d : ℕ} → Heated c → CloudOf c k → Air air → Permitted d → Placed (moved c d) k air
placed_moved {d = d} h w a p = record { fields = fields_moved h.fields p; cloud = cloud_moved d w; pressure = a }

-- r³P0 grows with r
cubes : {d e : ℕ} → d ≤ e → d * d * d ≤ e * e * e
cubes h = mul-le-mul (mul-le-mul h h) h

cubed_mono : (c : Case) (air : ℕ) {d e : ℕ} → d ≤ e → cubed air (moved c d) ≼ cubed air (moved c e)
unfolding cubed metres power whole ◌⊗◌ moved
cubed_mono c air {d} {e} h = omega (arith, mul-le-mul_right air (cubes h))

-- not beyond at e: not beyond nearer
pub within_nearer : (c : Case) (air : ℕ) {d e : ℕ} → d ≤ e → farther cube24 air (moved c e) ≡ false → farther cube24 air (moved c d) ≡ false
unfolding farther
within_nearer c air {d} {e} h w =
    not-less _ _
    (≼_trans (cubed_mono c air h)
    (subst (λ x. cubed air (moved c e) ≼ cube24 ⊗ x) (energy_moved c e ∙ sym (energy_moved c d)) (not_farther cube24 air (moved c e) w)))

pub beyond_farther : (c : Case) (air : ℕ) {d e : ℕ} → d ≤ e → farther cube24 air (moved c d) ≡ true → farther cube24 air (moved c e) ≡ true
beyond_farther c air {d} {e} h w = go (farther cube24 air (moved c e)) refl
  where
    go : (b : Bool) → farther cube24 air (moved c e) ≡ b → farther cube24 air (moved c e) ≡ true
    go true q = q
    go false q = let z : true ≡ false = sym w ∙ within_nearer c air h q in q ∙ sym z

-- 1 cm: r³P0 = P0/10^6 ≤ 0.11, and 24³E ≥ 13824·15/10^6
one_cm : (c : Case) (air : ℕ) (e : Ratio) → air ≤ 110000 → least_energy ≼ e → cubed air (moved c 1) ≼ cube24 ⊗ e
unfolding cubed metres power whole cube24 ◌⊗◌ moved
one_cm c air e h l = omega (arith, l.cross, mul-le-mul_right e.den h)

-- no case is beyond at 1 cm, at any permitted air pressure
pub never_beyond : (c : Case) (air : ℕ) → Heated c → Air air → farther cube24 air (moved c 1) ≡ false
unfolding farther
never_beyond c air h a =
    not-less _ _
    (one_cm c air (energy (moved c 1)) a.most (energy_least (moved c 1) (heated_moved h (record { least = omega arith; most = omega arith }))))
