-- The starred entries of document 01, "Known cases", in every permitted air (request 11); a frame is that of its case, in 22 or 24 bytes.
-- Those of a class in its surroundings and of a heat of 1 are of any case and of any frame already (KnownCases).
use Rattle.std.specs.Prelude.{ℕ, ◌*◌, ◌≤◌, ◌≡◌, true, false, List, [], ◌∷◌, ◌++◌, pos, Err, Ok}
use Rattle.exact.specs.Fraction.{whole, ◌≈◌}
use Rattle.exact.specs.Between.{ExactBetween}
use Rattle.guidance.specs.declared.Case.{Case}
use Rattle.guidance.specs.AirPressure.{in_air}
use Rattle.guidance.specs.Clouds.{range_of, energy}
use Rattle.guidance.specs.Distances.{nearer, cube02}
use Rattle.guidance.specs.Waves.{reduced_pressure}
use Rattle.guidance.specs.CaseQ.{q_in, EqualToAir}
use Rattle.refusals.specs.declared.Fault.TheVariants.{Substance, Heat}
use Rattle.fields.specs.Bytes.{fields_of, frame_bytes}
use Rattle.frame.specs.declared.Refusal.TheVariants.{Faulty, Beyond}
use Rattle.frame.specs.Verdicts.{frame_verdict}
use Rattle.answer.specs.Answer.{Answer}
use Rattle.answer.specs.KnownCases.{frame_of, q}

-- of case Q where E is P0, 10·air Pa
pub record KnownAir (mass heat air : ℕ) : Type 0 where
  pub q_range : range_of (q_in mass heat air 0 100) ≡ 1
  pub q_energy : energy (q_in mass heat air 0 100) ≈ whole (10 * air)
  pub q_20_cm : nearer cube02 (10 * air) (q_in mass heat air 0 20) ≡ false
  pub q_19_cm : nearer cube02 (10 * air) (q_in mass heat air 0 19) ≡ true
  -- 18·P0
  pub q_19_cm_pressure : (bytes : List ℕ) (a : Answer (q_in mass heat air 0 19) bytes) → (a.pascals.lower ≤ 180 * air) × (180 * air ≤ a.pascals.upper)
  pub q_2400_cm : frame_verdict (frame_bytes (q_in mass heat air 0 2400)) 77 ≡ Ok (q_in mass heat air 0 2400)
  pub q_2401_cm : frame_verdict (frame_bytes (q_in mass heat air 0 2401)) 77 ≡ Err Beyond
  -- Px = 0.285, and 0.285·P0
  pub q_heterogeneous : ExactBetween 1000 (reduced_pressure (10 * air) (q_in mass heat air 1 100)) (pos 285) (pos 285)
  pub q_heterogeneous_pressure
      : (bytes : List ℕ) (a : Answer (q_in mass heat air 1 100) bytes) → (1000 * a.pascals.lower ≤ 2850 * air) × (2850 * air ≤ 1000 * a.pascals.upper)

-- a starred frame of 22 bytes, its case in another air
abbrev pub starred_in : (air substance surroundings heat : ℕ) → List ℕ
starred_in air substance surroundings heat = frame_bytes (in_air (fields_of (frame_of substance 0 surroundings heat 100)) air)

pub record KnownRefusals (air : ℕ) : Type 0 where
  pub substance_25_heat_0 : frame_verdict (starred_in air 25 1 0) 77 ≡ Err (Faulty Heat)
  pub substance_47_heat_0 : frame_verdict (starred_in air 47 1 0) 77 ≡ Err (Faulty Heat)
  pub substance_76_surroundings_5 : frame_verdict (starred_in air 76 5 1013) 77 ≡ Err (Faulty Substance)

pub record KnownAirs : Type 0 where
  pub in_air_lem : (mass heat air : ℕ) → EqualToAir mass heat air → KnownAir mass heat air
  -- 10 g of as many J/g in every permitted air, and Q itself in the standard one
  pub ten_grams : (air : ℕ) → 5000 ≤ air → air ≤ 11000 → EqualToAir 10 air air
  pub hundred_grams : EqualToAir 100 1013 10130
  pub q_itself : (state distance : ℕ) → fields_of (q state distance) ≡ q_in 100 1013 10130 state distance
  pub refusals : (air : ℕ) → 5000 ≤ air → air ≤ 11000 → KnownRefusals air
  -- with 10,130 written out Q is the same case and has the same verdict; range and energy of a case, the propane example's too, are the same in any air
  pub standard_written : (state distance : ℕ) → fields_of (q state distance ++ (0x27 ∷ 0x92 ∷ [])) ≡ fields_of (q state distance)
  pub standard_verdict : (state distance room : ℕ) → frame_verdict (q state distance ++ (0x27 ∷ 0x92 ∷ [])) room ≡ frame_verdict (q state distance) room
  pub in_any_air : (c : Case) (air : ℕ) → (range_of (in_air c air) ≡ range_of c) × (energy (in_air c air) ≡ energy c)
