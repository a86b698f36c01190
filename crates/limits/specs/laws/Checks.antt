-- What is known of a case that passed its tests. Assumes nothing.
use Rattle.std.specs.Prelude.{ℕ, ◌≡◌, refl, Bool, true, false, cond, [], ◌∷◌, ◌++◌, Err, Ok}
use Rattle.std.proofs.Common.{sym, ap, ◌∙◌, true≢false, arith}
use Rattle.std.proofs.Math.Option.{Option, none, some}
use Rattle.guidance.specs.declared.Case.{Case}
use Rattle.guidance.specs.CloudWords.{Heated}
use Rattle.refusals.specs.declared.Fault.{Fault}
use Rattle.refusals.specs.declared.Fault.TheVariants.{Quantity, Heat}
use Rattle.refusals.specs.Order.{◌when◌, first_of}
use Rattle.refusals.proofs.laws.Order.{or_else, neither_found, first_append, none_first, passed}
use Rattle.limits.specs.Tests.{heat_missing, value_tests, heat_tests, field_tests}
use Rattle.limits.specs.Checks.{checked_by, values_checked, heat_checked, case_checked}
use Rattle.limits.specs.laws.Fields.{heated}

-- none applied, and it is the case that was given
pub sound_by : (o : Option Fault) (d c : Case) → checked_by o d ≡ Ok c → (o ≡ none) × (c ≡ d)
sound_by none d c h = (refl, cc)
sound_by (some f) d c h = let z : ◌≡◌ {A = ℕ} 0 1 = cc in absurd (omega arith)

-- by tests 3 to 6 it has its fields in their values, and a heat
pub heated_by_lem : (c : Case) → first_of (field_tests c) ≡ none → Heated c
heated_by_lem c h = heated c (passed (field_tests c) h)

-- they stand behind tests 3 to 5
pub heat_last : (lost : Bool) (c : Case) → heat_checked lost (values_checked c) ≡ checked_by (first_of (value_tests c ++ heat_tests lost c)) c
unfolding first_of
heat_last lost c = go (first_of (value_tests c)) ∙ sym (ap (λ (o : Option Fault). checked_by o c) (first_append (value_tests c) (heat_tests lost c)))
  where
    either : (a b : Bool) → cond a (Err Quantity) (cond b (Err Heat) (Ok c)) ≡ checked_by (cond a (some Quantity) (cond b (some Heat) none)) c
    either true b = refl
    either false true = refl
    either false false = refl

    go : (o : Option Fault) → heat_checked lost (checked_by o c) ≡ checked_by (or_else (λ (f : Fault). f) o (cond lost (some Quantity) (cond (heat_missing c) (some Heat) none))) c
    go none = either lost (heat_missing c)
    go (some f) = refl

-- with none lost these are tests 3 to 6
pub none_lost : (c : Case) → first_of (value_tests c ++ heat_tests false c) ≡ first_of (field_tests c)
unfolding field_tests first_of
none_lost c = first_append (value_tests c) (heat_tests false c) ∙ sym (first_append (value_tests c) ((Heat when heat_missing c) ∷ []))

pub case_checked_lem : (c : Case) → heat_checked false (values_checked c) ≡ case_checked c
case_checked_lem c = heat_last false c ∙ ap (λ (o : Option Fault). checked_by o c) (none_lost c)

-- a case that passes them has no lost heat, and passes tests 3 to 6
pub heat_clear : (lost : Bool) (c : Case) → first_of (value_tests c ++ heat_tests lost c) ≡ none → (lost ≡ false) × (first_of (field_tests c) ≡ none)
heat_clear lost c h = go lost (neither_found (λ (f : Fault). f) (first_of (value_tests c)) (first_of (heat_tests lost c)) (sym (first_append (value_tests c) (heat_tests lost c)) ∙ h)).1 h
  where
    go : (b : Bool) → first_of (heat_tests b c) ≡ none → first_of (value_tests c ++ heat_tests b c) ≡ none → (b ≡ false) × (first_of (field_tests c) ≡ none)
    go true n k = absurd (true≢false (none_first _ _ _ n).0)
    go false n k = (refl, sym (none_lost c) ∙ k)
