-- The domain of accepted cases: bounds of E and E/P0, and Rx between its thresholds, in the order of fractions. Assumes nothing.
use Rattle.std.specs.Prelude.{ℕ, zero, suc, ◌*◌, ◌^◌, ◌≤◌, ◌<◌, ◌≡◌, Bool, true, false, ◌&&◌, cond, eqb, ltb}
use Rattle.std.proofs.Math.Nat.{mul-pos, mul-le-mul}
use Rattle.std.proofs.Common.{mul-le-mul_right, arith, lt-ltb, le-ltb}
use Rattle.std.proofs.Math.Decide.{dec_le}
use Rattle.exact.specs.Fraction.{Ratio, ◌≼◌, ◌≈◌, Above0, whole, ◌⊗◌, recip, power}
use Rattle.exact.proofs.laws.Ratio.{≼_trans, to≼, from≼, above_mono}
use Rattle.guidance.specs.declared.Case.{Case}
use Rattle.guidance.specs.Clouds.{over, heterogeneous, deflagrates, energy}
use Rattle.guidance.specs.Distances.{metres, cubed, nearer, farther, cube02, cube025, cube034, cube24}
use Rattle.guidance.specs.AirPressure.{air_of}
use Rattle.guidance.specs.Cases.{Air, Fields, Accepted}
use Rattle.guidance.specs.declared.Cloud.{Cloud}
use Rattle.guidance.specs.Substances.{heat_of}
use Rattle.guidance.specs.CloudWords.{Heated, Placed, reduction, joules_of, parts_of}
use Rattle.guidance.proofs.laws.Limits.{placed_most, joules_least, parts_least, parts_most}
use Rattle.guidance.proofs.laws.Energies.{energy_is}
use Rattle.guidance.proofs.laws.Order.{least_of}

pub heated : {air : ℕ} {c : Case} → Accepted air c → Heated c
heated a = record { fields = a.fields; heat = a.heat }

-- a cloud that has joules is of a case that has a heat
pub heated_placed : {c : Case} {k : Cloud} {air : ℕ} → Placed c k air → Heated c
unfolding joules_of
heated_placed {c} {k} h = record { fields = h.fields; heat = go (heat_of c.substance c.heat) (omega (arith, h.cloud.joules, h.cloud.joules_is)) }
  where
    go : (n : ℕ) → 1 ≤ c.mass * n * cond (eqb c.placement 1) 2 1 * cond (ltb c.stoichiometric c.mean) c.stoichiometric 1 → 0 < n
    go zero l = absurd (omega arith)
    go (suc n) l = omega arith

pub accepted : {air : ℕ} {c : Case} → Heated c → farther cube24 air c ≡ false → Accepted air c
accepted h w = record { fields = h.fields; heat = h.heat; within = w }

-- the case's own air is one over which everything is proved
pub own_air : {c : Case} → Fields c → Air (air_of c)
own_air f = record { least = omega (arith, f.air); most = omega (arith, f.air_most) }

-- Energy: 15·10^-6 ≤ E ≤ 3·10^14

abbrev pub least_energy : Ratio
least_energy = over 15 1000000 (omega arith)

words_least : (b : Bool) (j p : ℕ) (z : 0 < p) → 1 ≤ j → p ≤ 50000 → least_energy ≼ over j p z ⊗ reduction b
unfolding ◌⊗◌ whole
words_least true j p z h k = omega arith
words_least false j p z h k = omega arith

words_most : (b : Bool) (j p m : ℕ) (z : 0 < p) → j ≤ m * p → over j p z ⊗ reduction b ≼ whole m
unfolding ◌⊗◌ whole
words_most true j p m z h = omega arith
words_most false j p m z h = omega arith

lean_below : (s m : ℕ) → cond (ltb s m) s 1 ≤ cond (ltb s m) m 1
lean_below s m = go (dec_le (suc s) m)
  where
    go : Dec (s < m) → cond (ltb s m) s 1 ≤ cond (ltb s m) m 1
    go (yes h) = rw (lt-ltb s m h) (omega arith)
    go (no h) = rw (le-ltb s m (omega arith)) (omega arith)

module _ (c : Case) (h : Heated c) where
  some_parts : 0 < parts_of c
  some_parts = parts_least c h.fields

  joules_parts : joules_of c ≤ 300000000000000 * parts_of c
  unfolding joules_of parts_of
  joules_parts = mul-le-mul (placed_most c h.fields) (lean_below c.stoichiometric c.mean)

  pub energy_least : least_energy ≼ energy c
  energy_least =
      ≼_trans
      (words_least (heterogeneous c && deflagrates c) (joules_of c) (parts_of c) some_parts (joules_least c h.fields h.heat) (parts_most c h.fields))
      (from≼ (energy_is c some_parts))

  pub energy_most : energy c ≼ whole 300000000000000
  energy_most =
      ≼_trans (to≼ (energy_is c some_parts))
      (words_most (heterogeneous c && deflagrates c) (joules_of c) (parts_of c) 300000000000000 some_parts joules_parts)

  pub energy_above : Above0 (energy c)
  energy_above = above_mono (record { above = omega arith }) energy_least

-- E/P0, in which the reduced distance is r/(E/P0)^(1/3): from 2^-34 to 2^34

pub air_above : {air : ℕ} → Air air → Above0 (whole air)
unfolding whole
air_above a = record { above = omega (arith, a.least) }

unfoldable pub per_air : {air : ℕ} → Air air → Case → Ratio
per_air {air} a c = energy c ⊗ recip (whole air) (air_above a)

per_air_least : (e : Ratio) (air : ℕ) (z : Above0 (whole air)) → air ≤ 110000 → least_energy ≼ e → whole 1 ≼ whole (2 ^ 34) ⊗ (e ⊗ recip (whole air) z)
unfolding whole ◌⊗◌ recip
per_air_least e air z k l = omega (arith, l.cross, mul-le-mul_right e.den k)

per_air_most : (e : Ratio) (air : ℕ) (z : Above0 (whole air)) → 50000 ≤ air → e ≼ whole 300000000000000 → e ⊗ recip (whole air) z ≼ whole (2 ^ 34)
unfolding whole ◌⊗◌ recip
per_air_most e air z k l = omega (arith, l.cross, mul-le-mul_right e.den k)

module _ {air : ℕ} (a : Air air) (c : Case) (h : Heated c) where
  pub per_air_above : Above0 (per_air a c)
  unfolding per_air ◌⊗◌ recip whole
  per_air_above = record { above = mul-pos (energy_above c h).above (omega arith) }

  pub per_air-least : whole 1 ≼ whole (2 ^ 34) ⊗ per_air a c
  unfolding per_air
  per_air-least = per_air_least (energy c) air (air_above a) a.most (energy_least c h)

  pub per_air-most : per_air a c ≼ whole (2 ^ 34)
  unfolding per_air
  per_air-most = per_air_most (energy c) air (air_above a) a.least (energy_most c h)

-- Rx between its thresholds: t E ≤ r³P0 where `nearer t` is false, r³P0 ≤ t E where `farther t` is

pub not_nearer : (t : Ratio) (air : ℕ) (c : Case) → nearer t air c ≡ false → t ⊗ energy c ≼ cubed air c
unfolding nearer
not_nearer t air c h = least_of _ _ h

pub not_farther : (t : Ratio) (air : ℕ) (c : Case) → farther t air c ≡ false → cubed air c ≼ t ⊗ energy c
unfolding farther
not_farther t air c h = least_of _ _ h

-- the same over P0: t E/P0 ≤ r³, r³ ≤ t E/P0

divide_low : (t e r : Ratio) (air : ℕ) (z : Above0 (whole air)) → t ⊗ e ≼ r ⊗ whole air → t ⊗ (e ⊗ recip (whole air) z) ≼ r
unfolding whole ◌⊗◌ recip
divide_low t e r air z h = omega (arith, h.cross)

divide_high : (t e r : Ratio) (air : ℕ) (z : Above0 (whole air)) → r ⊗ whole air ≼ t ⊗ e → r ≼ t ⊗ (e ⊗ recip (whole air) z)
unfolding whole ◌⊗◌ recip
divide_high t e r air z h = omega (arith, h.cross)

module _ {air : ℕ} (a : Air air) (c : Case) where
  pub cube_least : (t : Ratio) → nearer t air c ≡ false → t ⊗ per_air a c ≼ power (metres c) 3
  unfolding per_air cubed
  cube_least t h = divide_low t (energy c) (power (metres c) 3) air (air_above a) (not_nearer t air c h)

  pub cube_most : (t : Ratio) → farther t air c ≡ false → power (metres c) 3 ≼ t ⊗ per_air a c
  unfolding per_air cubed
  cube_most t h = divide_high t (energy c) (power (metres c) 3) air (air_above a) (not_farther t air c h)

-- the thresholds as cubes

pub cube_is_02 : power (over 2 10 (omega arith)) 3 ≈ cube02
unfolding cube02 power whole ◌⊗◌
cube_is_02 = omega arith

pub cube_is_025 : power (over 25 100 (omega arith)) 3 ≈ cube025
unfolding cube025 power whole ◌⊗◌
cube_is_025 = omega arith

pub cube_is_034 : power (over 34 100 (omega arith)) 3 ≈ cube034
unfolding cube034 power whole ◌⊗◌
cube_is_034 = omega arith

pub cube_is_24 : power (whole 24) 3 ≈ cube24
unfolding cube24 power whole ◌⊗◌
cube_is_24 = omega arith
