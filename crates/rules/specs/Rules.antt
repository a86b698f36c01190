-- Which rule gave ΔP and which gave I of an accepted case (request 5). In ranges 2 to 6 the answer is open where a name and "undecided" both
-- fit, and so are the ends of "undecided": what comes back is one that fits.
use Rattle.std.specs.Prelude.{ℕ, ◌≤◌, ◌≡◌, List, Bool, true, false, cond, Err, Ok}
use Rattle.exact.specs.Formula.{Formula}
use Rattle.exact.specs.Smaller.{IsSmaller}
use Rattle.guidance.specs.declared.Case.{Case}
use Rattle.guidance.specs.AirPressure.{air_of}
use Rattle.guidance.specs.Clouds.{deflagrates}
use Rattle.guidance.specs.Distances.{nearer, cube034}
use Rattle.guidance.specs.Waves.{near_field, deflagration_pressure, deflagration_impulse, detonation_pressure, detonation_impulse, in_pascals, in_pascal_seconds}
use Rattle.frame.specs.Verdict.{Verdict}
use Rattle.frame.specs.Verdicts.{answer_length, frame_verdict, line_verdict}
use Rattle.layout.specs.declared.Interval.{Interval}
use Rattle.blast.specs.WaveEnds.{WaveEnds}
use Rattle.rules.specs.declared.Rule.{Rule}
use Rattle.rules.specs.declared.Rule.TheVariants.{NearField, Detonation, Deflagration, DeflagrationAt034, Undecided}
use Rattle.rules.specs.declared.Rules.{Rules}
use Rattle.rules.specs.Answer.{Answer}

-- of a detonation figure: the near-field value, or the detonation formula
abbrev pub detonation_rule : (near : Bool) → Rule
detonation_rule near = cond near NearField Detonation

-- whole numbers around x and around y, each pair within the written width, that overlap; ends that touch do
pub record Overlap (x y : Formula) (a b : Interval ℕ) : Type 0 where
  pub first : WaveEnds x a
  pub second : WaveEnds y b
  pub first_reaches : b.lower ≤ a.upper
  pub second_reaches : a.lower ≤ b.upper

-- ranges 2 to 6, over the deflagration figure x and the detonation figure y: the rule of the smaller, or both enclosed
abbrev pub Fits : (air : ℕ) (c : Case) (x y : Formula) → Rule → Type 0
Fits air c x y NearField = (near_field air c ≡ true) × IsSmaller y x
Fits air c x y Detonation = (near_field air c ≡ false) × IsSmaller y x
Fits air c x y Deflagration = (nearer cube034 air c ≡ false) × IsSmaller x y
Fits air c x y DeflagrationAt034 = (nearer cube034 air c ≡ true) × IsSmaller x y
Fits air c x y (Undecided a b) = Overlap x y a b

-- range 1 has the detonation figure alone
abbrev pub Gave : (deflagrates : Bool) (air : ℕ) (c : Case) (x y : Formula) → Rule → Type 0
Gave false air c x y r = r ≡ detonation_rule (near_field air c)
Gave true air c x y r = Fits air c x y r

-- in Pa and in Pa·s
pub record RulesOf (air : ℕ) (c : Case) (r : Rules) : Type 0 where
  pub pressure : Gave (deflagrates c) air c (in_pascals air (deflagration_pressure air c)) (in_pascals air (detonation_pressure air c)) r.pressure
  pub impulse : Gave (deflagrates c) air c (in_pascal_seconds air c (deflagration_impulse air c)) (in_pascal_seconds air c (detonation_impulse air c)) r.impulse

-- by the verdict: the rules of an accepted case in its own air, or its refusal
abbrev pub Answers : Verdict → Answer → Type 0
Answers (Ok c) (Ok r) = RulesOf (air_of c) c r
Answers (Ok c) (Err q) = ⊥
Answers (Err q) answer = answer ≡ Err q

-- the entries; nothing is written, so the verdict is that with room for an answer, and test 8 never applies
abbrev pub FromFrame : (frame : List ℕ) → Answer → Type 0
FromFrame frame answer = Answers (frame_verdict frame answer_length) answer

abbrev pub FromLine : (line : List ℕ) → Answer → Type 0
FromLine line answer = Answers (line_verdict line answer_length) answer
