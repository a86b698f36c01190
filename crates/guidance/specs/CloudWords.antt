-- What the words of a cloud say of its case, for the promises of the code and of the crates above.
use Rattle.std.specs.Prelude.{ℕ, ◌*◌, ◌≤◌, ◌<◌, ◌≡◌, Bool, ◌&&◌, cond, eqb, ltb}
use Rattle.std.proofs.Common.{arith}
use Rattle.exact.specs.Fraction.{Ratio, ◌≈◌, whole, ◌⊗◌}
use Rattle.guidance.specs.declared.Case.{Case}
use Rattle.guidance.specs.declared.Cloud.{Cloud}
use Rattle.guidance.specs.Substances.{heat_of}
use Rattle.guidance.specs.Clouds.{over, range_of, heterogeneous, deflagrates, energy}
use Rattle.guidance.specs.Cases.{Fields, Air}

-- fields in their values, and a heat
pub record Heated (c : Case) : Type 0 where
  pub fields : Fields c
  pub heat : 0 < heat_of c.substance c.heat

-- 3/4 where it applies, else 1
abbrev pub reduction : Bool → Ratio
reduction aerosol = cond aerosol (over 3 4 (omega arith)) (whole 1)

-- E·parts without the 3/4
unfoldable pub joules_of : Case → ℕ
joules_of c =
    c.mass * heat_of c.substance c.heat * cond (eqb c.placement 1) 2 1
    * cond (ltb c.stoichiometric c.mean) c.stoichiometric 1

unfoldable pub parts_of : Case → ℕ
parts_of c = cond (ltb c.stoichiometric c.mean) c.mean 1

-- the four words, each by an equation; then what follows of them: E = joules/parts, times 3/4 where `aerosol`
pub record CloudOf (c : Case) (k : Cloud) : Type 0 where
  pub range : k.range ≡ range_of c
  pub aerosol : k.aerosol ≡ (heterogeneous c && deflagrates c)
  pub joules_is : k.joules ≡ joules_of c
  pub parts_is : k.parts ≡ parts_of c
  pub joules : 1 ≤ k.joules
  pub joules_most : k.joules ≤ 15000000000000000000
  pub parts : 0 < k.parts
  pub parts_most : k.parts ≤ 50000
  pub energy : energy c ≈ over k.joules k.parts parts ⊗ reduction k.aerosol

-- a case, its cloud and the air pressure
pub record Placed (c : Case) (k : Cloud) (air : ℕ) : Type 0 where
  pub fields : Fields c
  pub cloud : CloudOf c k
  pub pressure : Air air

-- r³P0 < t·E, in millionths and over parts·4: cm³ times `weight_of` against joules times `scaled_by t`
unfoldable pub weight_of : Cloud → (air : ℕ) → ℕ
weight_of k air = air * k.parts * cond k.aerosol 4 1

unfoldable pub scaled_by : Cloud → (t : ℕ) → ℕ
scaled_by k t = t * cond k.aerosol 3 1

-- t/1000000: each of the four in millionths
abbrev pub millionths : ℕ → Ratio
millionths t = over t 1000000 (omega arith)
