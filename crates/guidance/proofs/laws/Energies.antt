-- The energy of a case is that of its cloud's words. Assumes nothing.
use Rattle.std.specs.Prelude.{ℕ, ◌*◌, ◌<◌, ◌≡◌, refl, Bool, true, false, ◌&&◌, cond, eqb, ltb}
use Rattle.std.proofs.Common.{arith, lt-ltb, le-ltb}
use Rattle.exact.specs.Fraction.{Ratio, ◌≈◌, whole, ◌⊗◌}
use Rattle.exact.proofs.laws.Equal.{≈-refl, ≈-trans, ⊗_cong}
use Rattle.guidance.specs.declared.Case.{Case}
use Rattle.guidance.specs.declared.Cloud.{Cloud}
use Rattle.guidance.specs.Substances.{heat_of}
use Rattle.guidance.specs.Clouds.{over, range_of, heterogeneous, deflagrates, ground_factor, lean_by, lean_factor, aerosol_factor, energy}
use Rattle.guidance.specs.CloudWords.{Heated, reduction, CloudOf, joules_of, parts_of}
use Rattle.guidance.proofs.laws.Limits.{joules_least, joules_most, parts_least, parts_most}

ground_is : (c : Case) → ground_factor c ≈ whole (cond (eqb c.placement 1) 2 1)
unfolding ground_factor
ground_is c = go (eqb c.placement 1)
  where
    go : (b : Bool) → cond b (whole 2) (whole 1) ≈ whole (cond b 2 1)
    go true = ≈-refl (whole 2)
    go false = ≈-refl (whole 1)

lean_is : (s m : ℕ) (d : Dec (s < m)) (z : 0 < cond (ltb s m) m 1) → lean_by s m d ≈ over (cond (ltb s m) s 1) (cond (ltb s m) m 1) z
unfolding lean_by whole
lean_is s m (yes h) z = record { cross = rw (lt-ltb s m h) refl }
lean_is s m (no h) z = record { cross = rw (le-ltb s m (omega arith)) refl }

product : (n g l p : ℕ) (z : 0 < p) (A : Ratio) → whole n ⊗ whole g ⊗ over l p z ⊗ A ≈ over (n * g * l) p z ⊗ A
unfolding whole ◌⊗◌
product n g l p z A = omega arith

pub energy_is : (c : Case) (z : 0 < parts_of c) → energy c ≈ over (joules_of c) (parts_of c) z ⊗ reduction (heterogeneous c && deflagrates c)
unfolding energy lean_factor aerosol_factor joules_of parts_of
energy_is c z =
    ≈-trans
    (⊗_cong (⊗_cong (⊗_cong (≈-refl _) (ground_is c)) (lean_is c.stoichiometric c.mean _ z)) (≈-refl _))
    (product (c.mass * heat_of c.substance c.heat) (cond (eqb c.placement 1) 2 1) _ _ z (reduction (heterogeneous c && deflagrates c)))

pub cloud_is : (c : Case) (h : Heated c) (k : Cloud) → k.range ≡ range_of c → k.aerosol ≡ (heterogeneous c && deflagrates c)
    → k.joules ≡ joules_of c → k.parts ≡ parts_of c → CloudOf c k
unfolding ◌⊗◌
cloud_is c h k r a j p =
    record {
      range = r;
      aerosol = a;
      joules_is = j;
      parts_is = p;
      joules = rw j (joules_least c h.fields h.heat);
      joules_most = rw j (joules_most c h.fields);
      parts = rw p (parts_least c h.fields);
      parts_most = rw p (parts_most c h.fields);
      energy = record { cross = rw (j, p, a) (energy_is c (parts_least c h.fields)).cross };
    }
