-- The starred cases (document 01, "Known cases"), complete and in one table; a frame is given as its bytes. Figures that 01 calls "near" are not part of it.
use Rattle.std.specs.Prelude.{ℕ, ◌*◌, ◌/◌, ◌%◌, ◌≤◌, ◌≡◌, true, false, List, [], ◌∷◌, pos, Err, Ok}
use Rattle.exact.specs.Fraction.{whole, ◌≈◌}
use Rattle.guidance.specs.declared.Case.{Case}
use Rattle.guidance.specs.AirPressure.{air_of}
use Rattle.guidance.specs.Substances.{class_of}
use Rattle.guidance.specs.Clouds.{range_of, energy}
use Rattle.guidance.specs.Distances.{nearer, cube02}
use Rattle.guidance.specs.Waves.{reduced_pressure}
use Rattle.refusals.specs.declared.Fault.TheVariants.{Substance, Heat}
use Rattle.fields.specs.Bytes.{fields_of}
use Rattle.frame.specs.declared.Refusal.TheVariants.{Faulty, Beyond}
use Rattle.frame.specs.Verdicts.{frame_verdict}
use Rattle.exact.specs.Between.{ExactBetween}
use Rattle.answer.specs.Answer.{Answer}

-- raised, 100 g, c = s = 1, 70 kg
abbrev pub frame_of : (substance state surroundings heat distance : ℕ) → List ℕ
frame_of substance state surroundings heat distance =
    substance ∷ state ∷ 0 ∷ surroundings ∷ 0 ∷ 0 ∷ 0 ∷ 100 ∷ 0 ∷ 1 ∷ 0 ∷ 1
    ∷ 0 ∷ 0 ∷ heat / 256 ∷ heat % 256 ∷ 0 ∷ 0 ∷ distance / 256 ∷ distance % 256 ∷ 0 ∷ 70 ∷ []

-- case Q
abbrev pub q : (state distance : ℕ) → List ℕ
q state distance = frame_of 0 state 1 1013 distance

-- the propane example of 004
abbrev pub propane : List ℕ
propane =
    0x11 ∷ 0x00 ∷ 0x01 ∷ 0x04 ∷ 0x00 ∷ 0x7A ∷ 0x12 ∷ 0x00 ∷ 0x05 ∷ 0x78 ∷ 0x03
    ∷ 0x02 ∷ 0x00 ∷ 0x00 ∷ 0xB5 ∷ 0x40 ∷ 0x00 ∷ 0x00 ∷ 0x27 ∷ 0x10 ∷ 0x00 ∷ 0x46 ∷ []

pub record KnownCases : Type 0 where
  pub q_range : range_of (fields_of (q 0 100)) ≡ 1
  pub q_energy : energy (fields_of (q 0 100)) ≈ whole 101300
  pub q_20_cm : nearer cube02 (air_of (fields_of (q 0 20))) (fields_of (q 0 20)) ≡ false
  pub q_19_cm : nearer cube02 (air_of (fields_of (q 0 19))) (fields_of (q 0 19)) ≡ true
  pub q_19_cm_pressure
      : (bytes : List ℕ) (a : Answer (fields_of (q 0 19)) bytes) → (a.pascals.lower ≤ 1823400) × (1823400 ≤ a.pascals.upper)
  pub q_2400_cm : frame_verdict (q 0 2400) 77 ≡ Ok (fields_of (q 0 2400))
  pub q_2401_cm : frame_verdict (q 0 2401) 77 ≡ Err Beyond
  -- Px = 0.285, in thousandths 285; 28,870.5 Pa lies inside
  pub q_heterogeneous : ExactBetween 1000 (reduced_pressure (air_of (fields_of (q 1 100))) (fields_of (q 1 100))) (pos 285) (pos 285)
  pub q_heterogeneous_pressure
      : (bytes : List ℕ) (a : Answer (fields_of (q 1 100)) bytes) → (10 * a.pascals.lower ≤ 288705) × (288705 ≤ 10 * a.pascals.upper)
  pub class_1_in_1 : (c : Case) → class_of c.substance ≡ 1 → c.surroundings ≡ 1 → range_of c ≡ 1
  pub class_1_in_2 : (c : Case) → class_of c.substance ≡ 1 → c.surroundings ≡ 2 → range_of c ≡ 1
  pub class_4_in_4 : (c : Case) → class_of c.substance ≡ 4 → c.surroundings ≡ 4 → range_of c ≡ 6
  pub substance_25_heat_0 : frame_verdict (frame_of 25 0 1 0 100) 77 ≡ Err (Faulty Heat)
  pub substance_47_heat_0 : frame_verdict (frame_of 47 0 1 0 100) 77 ≡ Err (Faulty Heat)
  pub heat_1 : (frame : List ℕ) (room : ℕ) → (fields_of frame).heat ≡ 1 → frame_verdict frame room ≡ Err (Faulty Heat) → ⊥
  pub substance_76_surroundings_5 : frame_verdict (frame_of 76 0 5 1013 100) 77 ≡ Err (Faulty Substance)
  pub propane_energy : energy (fields_of propane) ≈ whole 408320000000
  pub propane_range : range_of (fields_of propane) ≡ 4
