-- So no function for C returns 4: each returns 0 or a refusal's number. Assumes nothing.
use Rattle.std.specs.Prelude.{ℕ, ◌≡◌, refl, false, List, [], ◌∷◌, length, Err, Ok}
use Rattle.std.proofs.Common.{sym, ap, ◌∙◌, arith}
use Rattle.std.proofs.Math.Option.{Option, none, some, some-injective}
use Rattle.exact.specs.Formula.{Formula}
use Rattle.guidance.specs.declared.Case.{Case}
use Rattle.frame.specs.Verdict.{Verdict}
use Rattle.frame.specs.Refusals.{code}
use Rattle.frame.specs.Verdicts.{answer_length, frame_verdict}
use Rattle.ring.specs.Answer as answers
use Rattle.rules.specs.Answer as rules
use Rattle.writable.specs.Verdict as verdicts
use Rattle.writable.specs.Refusals as writings
use Rattle.from_old.specs.Verdict as old_verdicts
use Rattle.from_old.specs.Refusals as old_lines
use Rattle.from_old.specs.Tests.{line_verdict}
use Rattle.to_old.specs.Verdict as back_verdicts
use Rattle.to_old.specs.Refusals as ways_back
use Rattle.to_old.specs.Tests as old_tests
use Rattle.refusals.specs.Order.{Test, ◌when◌, first_of}
use Rattle.refusals.proofs.laws.Order.{or_else, first_held, applies, absent}
use Rattle.fields.specs.Bytes.{fields_of}
use Rattle.frame.specs.Tests.{frame_tests}
use Rattle.sheet.specs.declared.Refusal as of_adding
use Rattle.sheet.specs.Refusals as sheets
use Rattle.sheet.specs.Tests.{full, own_tests}
use Rattle.sheet_bytes.specs.Packing.{short, lent}
use Rattle.lent_sheet.specs.Calls as lent_calls
use Rattle.linked.specs.Codes.{Entered, FigureAnswered}
use Rattle.linked.specs.Rings.{Given, Answered}
use Rattle.linked.specs.OldLines.{CameIn, WentBack}
use Rattle.linked.specs.Writings.{WroteCase}
use Rattle.linked.specs.Reasons as reasons
use Rattle.numbering.specs.Entries.Refused.{answer, ring, writing, old_line, way_back, adding}
use Rattle.numbering.proofs.laws.Retired.{retired}

code_retired : (v : Verdict) → code v ≡ 4 → ⊥
code_retired (Ok c) = λ e. omega arith
code_retired (Err r) = retired (answer r)

-- a case's answer
pub entered_not_4 : {v : Verdict} {n : ℕ} {before after : List ℕ} → Entered v n before after → n ≡ 4 → ⊥
entered_not_4 {v} e h = code_retired v (sym e.returned ∙ h)

-- a figure alone
pub figure_not_4 : {x : Case → Formula} {frame : List ℕ} {lower upper n l u : ℕ} → FigureAnswered x frame lower upper n l u → n ≡ 4 → ⊥
figure_not_4 {frame = frame} e h = code_retired (frame_verdict frame answer_length) (sym e.returned ∙ h)

-- a ring
given_not_4 : (a : answers.Answer) (inner outer n i o : ℕ) → Given a inner outer n i o → n ≡ 4 → ⊥
given_not_4 (Ok r) inner outer n i o g h = let z = sym g.number ∙ h in omega arith
given_not_4 (Err r) inner outer n i o g h = retired (ring r) (sym g.number ∙ h)

pub ring_not_4 : {Fits : answers.Answer → Type 0} {inner outer n i o : ℕ} → Answered Fits inner outer n i o → n ≡ 4 → ⊥
ring_not_4 a h = given_not_4 a.answer _ _ _ _ _ a.given h

-- the rules
reason_not_4 : (a : rules.Answer) (pressure impulse n p i : ℕ) → reasons.Given a pressure impulse n p i → n ≡ 4 → ⊥
reason_not_4 (Ok r) pressure impulse n p i g h = let z = sym g.number ∙ h in omega arith
reason_not_4 (Err q) pressure impulse n p i g h = retired (answer q) (sym g.number ∙ h)

pub rules_not_4 : {frame : List ℕ} {pressure impulse n p i : ℕ} → reasons.Reasoned frame pressure impulse n p i → n ≡ 4 → ⊥
rules_not_4 a h = reason_not_4 a.answer _ _ _ _ _ a.given h

-- an old line, in and back
pub came_in_not_4 : {line before after : List ℕ} {n : ℕ} → CameIn line before n after → n ≡ 4 → ⊥
came_in_not_4 {line} {before} e h = go (line_verdict line (length before)) (sym e.returned ∙ h)
  where
    go : (v : old_verdicts.Verdict) → old_lines.code v ≡ 4 → ⊥
    go (Ok c) = λ z. omega arith
    go (Err r) = retired (old_line r)

pub went_back_not_4 : {frame before after : List ℕ} {n : ℕ} → WentBack frame before n after → n ≡ 4 → ⊥
went_back_not_4 {frame} {before} e h = go (old_tests.frame_verdict frame (length before)) (sym e.returned ∙ h)
  where
    go : (v : back_verdicts.Verdict) → ways_back.code v ≡ 4 → ⊥
    go (Ok c) = λ z. omega arith
    go (Err r) = retired (way_back r)

-- a frame from fields, and a spelling
written_retired : (v : verdicts.Verdict) → writings.code v ≡ 4 → ⊥
written_retired (Ok c) = λ z. omega arith
written_retired (Err r) = retired (writing r)

pub wrote_not_4 : {text : Case → List ℕ} {due : verdicts.Verdict} {n : ℕ} {before after : List ℕ} → WroteCase text due before n after → n ≡ 4 → ⊥
wrote_not_4 {due = due} e h = written_retired due (sym e.returned ∙ h)

-- a sheet: no test of its calls has the number 4

at_4 : (o : Option ℕ) → lent_calls.code o ≡ 4 → o ≡ some 4
at_4 none h = absurd (omega arith)
at_4 (some n) h = ap {B = Option ℕ} some h

never : (ts : List (Test ℕ)) → applies (λ (n : ℕ). n) 4 ts ≡ false → first_of ts ≡ some 4 → ⊥
never ts a h = absent (λ (n : ℕ). n) 4 ts a h

tests_not_4 : (c : lent_calls.Change) (s : List ℕ) → first_of (lent_calls.tests c s) ≡ some 4 → ⊥
unfolding lent_calls.tests
tests_not_4 (lent_calls.add frame u) s h = go (first_of own) (sym (first_held sheets.number own last) ∙ h)
  where
    own : List (Test of_adding.Refusal)
    own = own_tests (frame_tests frame) (fields_of frame)

    last : List (Test ℕ)
    last = (8 when short s) ∷ (17 when full (lent s)) ∷ []

    go : (o : Option of_adding.Refusal) → or_else sheets.number o (first_of last) ≡ some 4 → ⊥
    go none h = never last refl h
    go (some r) h = retired (adding r) (some-injective (sheets.number r) 4 h)
tests_not_4 (lent_calls.withdraw k) s h = never _ refl h
tests_not_4 lent_calls.close s h = never _ refl h

pub sheet_not_4 : {c : lent_calls.Change} {before after : List ℕ} {n : ℕ} → lent_calls.Acts c before n after → n ≡ 4 → ⊥
sheet_not_4 {c} {before} a h = tests_not_4 c before (at_4 _ (sym a.returned ∙ h))

pub sheet_add_not_4 : {frame before after : List ℕ} {place n p : ℕ} → lent_calls.Adds frame before place n after p → n ≡ 4 → ⊥
sheet_add_not_4 a h = sheet_not_4 a.acts h

pub sheet_case_not_4 : {k n : ℕ} {s before after : List ℕ} → lent_calls.Shows k s before n after → n ≡ 4 → ⊥
unfolding lent_calls.show_tests
sheet_case_not_4 {k} {n} {s} {before} a h = never _ refl (at_4 _ (sym a.returned ∙ h))

pub sheet_totals_not_4 : {s : List ℕ} {a b c n x y z : ℕ} → lent_calls.Totalled s a b c n x y z → n ≡ 4 → ⊥
sheet_totals_not_4 t h = never _ refl (at_4 _ (sym t.returned ∙ h))
