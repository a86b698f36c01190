-- In range 1 one answer fits and no other; of case Q by computation, on both sides of the near field's edge in either state. Assumes nothing.
use Rattle.std.specs.Prelude.{ℕ, ◌≡◌, refl, Bool, false, List, Err, Ok}
use Rattle.std.proofs.Common.{subst, ap₂}
use Rattle.std.proofs.Math.Decide.{dec_le}
use Rattle.exact.specs.Fraction.{whole, ◌⊗◌, power}
use Rattle.exact.specs.Formula.{Formula}
use Rattle.guidance.specs.declared.Case.{Case}
use Rattle.guidance.specs.AirPressure.{air_of}
use Rattle.guidance.specs.Substances.{betas, beta_of, class_of, heat_of}
use Rattle.guidance.specs.Ranges.{ranges, range_at}
use Rattle.guidance.specs.Clouds.{range_of, deflagrates, ground_factor, lean_by, lean_factor, aerosol_factor, energy}
use Rattle.guidance.specs.Distances.{less, metres, cubed, nearer, farther, cube02, cube025, cube24}
use Rattle.guidance.specs.Waves.{near_field}
use Rattle.refusals.specs.Order.{first_of, held}
use Rattle.fields.specs.Bytes.{air_in, fields_of}
use Rattle.limits.specs.Tests.{quantity_outside, heat_missing, value_tests, field_tests}
use Rattle.frame.specs.Verdict.{Verdict}
use Rattle.frame.specs.declared.Refusal.TheVariants.{Beyond}
use Rattle.frame.specs.Tests.{frame_tests}
use Rattle.frame.specs.Verdicts.{answer_length, last_tests, frame_verdict}
use Rattle.answer.specs.KnownCases.{q}
use Rattle.rules.specs.declared.Rule.{Rule}
use Rattle.rules.specs.declared.Rule.TheVariants.{NearField, Detonation}
use Rattle.rules.specs.Answer.{Answer}
use Rattle.rules.specs.Rules.{detonation_rule, Gave, Answers, FromFrame}

-- one rule for both figures
abbrev pub both : Rule → Answer
both r = Ok (record { pressure = r; impulse = r })

gave_alone : (b : Bool) (air : ℕ) (c : Case) (x y : Formula) (r : Rule) → b ≡ false → Gave b air c x y r → r ≡ detonation_rule (near_field air c)
gave_alone b air c x y r e g = subst (λ (t : Bool). Gave t air c x y r) e g

named_alone : (c : Case) (a : Answer) → deflagrates c ≡ false → Answers (Ok c) a → a ≡ both (detonation_rule (near_field (air_of c) c))
named_alone c (Ok r) e h =
    ap₂ (λ (p i : Rule). Ok (record { pressure = p; impulse = i })) (gave_alone (deflagrates c) (air_of c) c _ _ r.pressure e h.pressure)
    (gave_alone (deflagrates c) (air_of c) c _ _ r.impulse e h.impulse)
named_alone c (Err q) e h = absurd h

pub range_1 : (frame : List ℕ) (c : Case) (a : Answer) → frame_verdict frame answer_length ≡ Ok c → deflagrates c ≡ false → FromFrame frame a
    → a ≡ both (detonation_rule (near_field (air_of c) c))
range_1 frame c a v e h = named_alone c a e (subst (λ (w : Verdict). Answers w a) v h)

pub record Examples : Type 0 where
  pub gas_within : (a : Answer) → FromFrame (q 0 19) a → a ≡ both NearField
  pub gas_at_02 : (a : Answer) → FromFrame (q 0 20) a → a ≡ both Detonation
  pub heterogeneous_within : (a : Answer) → FromFrame (q 1 24) a → a ≡ both NearField
  pub heterogeneous_at_025 : (a : Answer) → FromFrame (q 1 25) a → a ≡ both Detonation
  pub beyond : (a : Answer) → FromFrame (q 0 2401) a → a ≡ Err Beyond

pub examples : Examples
unfolding frame_verdict first_of held frame_tests field_tests value_tests last_tests quantity_outside heat_missing air_in fields_of farther nearer less cubed metres cube02 cube025 cube24 power whole ◌⊗◌ energy ground_factor lean_factor lean_by dec_le aerosol_factor heat_of betas beta_of range_of range_at ranges class_of near_field
examples =
    record {
      gas_within = λ a h. range_1 (q 0 19) (fields_of (q 0 19)) a refl refl h;
      gas_at_02 = λ a h. range_1 (q 0 20) (fields_of (q 0 20)) a refl refl h;
      heterogeneous_within = λ a h. range_1 (q 1 24) (fields_of (q 1 24)) a refl refl h;
      heterogeneous_at_025 = λ a h. range_1 (q 1 25) (fields_of (q 1 25)) a refl refl h;
      beyond = λ a h. h;
    }
