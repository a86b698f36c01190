-- Where E is P0, Rx is the distance in metres: by the comparisons, and by the brackets, in which 1 stands for E/P0. Assumes nothing.
use Rattle.std.specs.Prelude.{ℕ, suc, ◌≡◌}
use Rattle.std.proofs.Common.{◌∙◌, arith}
use Rattle.exact.specs.Fraction.{Ratio, ◌≈◌, Above0, whole, ◌⊗◌, recip, power, of_ratio}
use Rattle.exact.specs.Formula.{Formula, const, div}
use Rattle.exact.proofs.laws.Ratio.{≼_refl, ⊗_mono}
use Rattle.exact.proofs.laws.Equal.{≈-refl, ⊗_cong, ⊗_cancel_right}
use Rattle.exact.proofs.laws.Replacing.{Within, within_refl, within_trans, add_within, mul_within, div_within, ln_within, exp_within, value_within, ratio_within}
use Rattle.guidance.specs.declared.Case.{Case}
use Rattle.guidance.specs.Clouds.{energy}
use Rattle.guidance.specs.Distances.{less, metres, cubed, nearer, farther}
use Rattle.guidance.specs.Waves.{number, raised, third, thousandths, reduced_distance, aerosol_pressure}
use Rattle.guidance.proofs.laws.Order.{less_same, less_value}

-- E is P0
pub record EnergyIsAir (air : ℕ) (c : Case) : Type 0 where
  pub above : Above0 (whole air)
  pub same : energy c ≈ whole air

-- r/1^(1/3)
unfoldable pub unit_distance : Case → Formula
unit_distance c = div (number (metres c)) (raised third (number (whole 1)))

quotient_one : (x y : Ratio) (h : Above0 y) → x ≈ y → x ⊗ recip y h ≈ whole 1
unfolding whole ◌⊗◌ recip
quotient_one x y h e = omega (arith, e.cross)

module _ {air : ℕ} {c : Case} (e : EnergyIsAir air c) where
  without_air : (x y : Ratio) → less (x ⊗ whole air) (y ⊗ whole air) ≡ less x y
  without_air x y = less_same _ _ _ _ (⊗_cancel_right (whole air) e.above) (λ h. ⊗_mono h (≼_refl (whole air)))

  energy_as_air : (t : Ratio) → t ⊗ energy c ≈ t ⊗ whole air
  energy_as_air t = ⊗_cong (≈-refl t) e.same

  -- r³ < t, and t < r³
  pub nearer_metres : (t : Ratio) → nearer t air c ≡ less (power (metres c) 3) t
  unfolding nearer cubed
  nearer_metres t = less_value _ _ _ _ (≈-refl (cubed air c)) (energy_as_air t) ∙ without_air (power (metres c) 3) t

  pub farther_metres : (t : Ratio) → farther t air c ≡ less t (power (metres c) 3)
  unfolding farther cubed
  farther_metres t = less_value _ _ _ _ (energy_as_air t) (≈-refl (cubed air c)) ∙ without_air t (power (metres c) 3)

  distance_within : (k : ℕ) → Within (reduced_distance air c) (unit_distance c) (suc k)
  unfolding reduced_distance unit_distance
  distance_within k =
      let one = within_trans (ratio_within (energy c) (whole air) e.above (suc k)) (value_within (quotient_one (energy c) (whole air) e.above e.same) (suc k)) in
      div_within (within_refl (number (metres c)) (suc k)) (exp_within (mul_within (within_refl (const (of_ratio third)) (suc k)) (ln_within one)))

  -- Px of a heterogeneous detonation
  pub aerosol_within : (k : ℕ) → Within (aerosol_pressure (reduced_distance air c)) (aerosol_pressure (unit_distance c)) (suc k)
  unfolding aerosol_pressure
  aerosol_within k =
      let d = distance_within k in
      let s = mul_within d d in
      let n : (thousands : ℕ) → Within (number (thousandths thousands)) (number (thousandths thousands)) (suc k) = λ thousands. within_refl _ _ in
      add_within (add_within (div_within (n 125) d) (div_within (n 137) s)) (div_within (n 23) (mul_within s d))
