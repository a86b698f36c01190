-- The frame that is read back is, byte for byte, the one that was added, or its first 22 bytes. Assumes nothing.
use Rattle.std.specs.Prelude.{ℕ, ◌≡◌, refl, Bool, true, false, ◌⊎◌, List, [], ◌∷◌, T, eqb, length, take}
use Rattle.std.proofs.Common.{sym, ◌∙◌, inl, inr, ⊎_elim, eqb-true}
use Rattle.std.proofs.Math.Option.{none}
use Rattle.std.proofs.Math.Pow.{are_bytes}
use Rattle.std.proofs.lemmas.Bool.{eqb-false}
use Rattle.guidance.specs.AirPressure.{standard}
use Rattle.refusals.specs.Order.{◌when◌, first_of}
use Rattle.refusals.proofs.laws.Order.{first_held, neither_found}
use Rattle.fields.specs.Bytes.{air_in, fields_of, frame_bytes}
use Rattle.fields.specs.laws.Back.{air_of_fields, frame_again, longer_again, shorter_again}
use Rattle.frame.specs.Tests.{frame_tests, beyond}
use Rattle.frame.specs.laws.Lengths.{which}
use Rattle.frame.specs.laws.Checks.{frame_clear}
use Rattle.sheet.specs.declared.Refusal.TheVariants.{Faulty, Beyond}
use Rattle.sheet.specs.Refusals.{number}
use Rattle.sheet.specs.Tests.{own_tests}
use Rattle.lent_sheet.specs.Calls.{add, tests}

-- its first 22 bytes where it has 24 with the standard pressure
abbrev Shortened : (frame : List ℕ) → Type 0
Shortened frame = (length frame ≡ 24) × ((fields_of frame).air ≡ standard) × (frame_bytes (fields_of frame) ≡ take 22 frame)

pub added_back : (frame s : List ℕ) (u : ℕ) → T (are_bytes frame) → first_of (tests (add frame u) s) ≡ none → (frame_bytes (fields_of frame) ≡ frame) ⊎ Shortened frame
unfolding tests own_tests
added_back frame s u bytes h =
    let c = fields_of frame in
    let own = (neither_found number _ _ (sym (first_held number (own_tests (frame_tests frame) c) _) ∙ h)).0 in
    let clear = (neither_found Faulty _ _ (sym (first_held Faulty (frame_tests frame) ((Beyond when beyond c) ∷ [])) ∙ own)).0 in
    ⊎_elim (λ e. inl (frame_again frame bytes e)) (λ e. longer e (eqb (air_in frame) standard) refl) (which 22 24 frame (frame_clear frame clear).0)
  where
    longer : length frame ≡ 24 → (b : Bool) → eqb (air_in frame) standard ≡ b → (frame_bytes (fields_of frame) ≡ frame) ⊎ Shortened frame
    longer n true e = let a = eqb-true (air_in frame) standard e in inr (n, air_of_fields frame ∙ a, shorter_again frame bytes n a)
    longer n false e = inl (longer_again frame bytes n (eqb-false (air_in frame) standard e))
