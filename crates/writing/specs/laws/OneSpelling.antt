-- What is written is read back, spelling twice is spelling once, and one spelling is one case. Assumes nothing.
use Rattle.std.specs.Prelude.{ℕ, ◌≤◌, ◌≡◌, ◌↔◌, List, length, take, Ok}
use Rattle.std.proofs.Common.{sym, ap, ◌∙◌, subst}
use Rattle.std.proofs.Math.Option.{none}
use Rattle.guidance.specs.declared.Case.{Case}
use Rattle.guidance.specs.CloudWords.{Heated}
use Rattle.hexadecimals.specs.Digits.{bytes_of}
use Rattle.refusals.specs.declared.Fault.{Fault}
use Rattle.refusals.specs.Order.{Test, first_of}
use Rattle.fields.specs.Bytes.{fields_of, frame_bytes}
use Rattle.fields.specs.laws.Back.{standard_length, other_length, fields_again}
use Rattle.limits.specs.Tests.{field_tests}
use Rattle.limits.specs.laws.Fields.{heated_passes}
use Rattle.limits.specs.laws.Checks.{heated_by_lem}
use Rattle.frame.specs.Tests.{frame_tests, line_tests}
use Rattle.frame.specs.laws.Checks.{frame_passes, frame_clear, line_clear}
use Rattle.writable.specs.Verdict.{Verdict}
use Rattle.writable.specs.Verdicts.{writable_verdict}
use Rattle.writable.specs.Writing.{Writes}
use Rattle.writable.specs.laws.Verdicts.{accepts}
use Rattle.writable.specs.laws.Writing.{placed_text}
use Rattle.writing.specs.Spelling.{as_spelled, spelling, Agree}
use Rattle.writing.specs.Entries.{FromFields, SpellsFrame}
use Rattle.writing.specs.OneSpelling.{SpellingOf, FrameOf, OneSpelling}
use Rattle.writing.specs.laws.Cases.{spelled_agree, spelled_again}
use Rattle.writing.specs.laws.Spellings.{short_spelling, long_spelling, bytes_read, bytes_pass, line_passes, spelling_again, agree_one, one_agree}

frame_read : (c d : Case) (before after : List ℕ) → FromFields c before (Ok d) after → (d ≡ c) × FrameOf c (take (length (frame_bytes c)) after)
frame_read c d before after w =
    let p = placed_text (field_tests c) c w in
    let f = (heated_by_lem c p.sound).fields in
    (p.same, record { sound = rw p.start (frame_passes f p.sound); fields = ap fields_of p.start ∙ fields_again c f })

-- an entry that spells the case c by its own tests
abbrev Spells : (tests : List (Test Fault)) (c : Case) (before : List ℕ) (v : Verdict) (after : List ℕ) → Type 0
Spells tests c before = Writes spelling (writable_verdict spelling tests c (length before)) before

written_spelling : (tests : List (Test Fault)) (c : Case) {d : Case} {before after : List ℕ}
    → (first_of tests ≡ none → Heated c)
    → Spells tests c before (Ok d) after
    → (d ≡ c) × SpellingOf d (take (length (spelling d)) after)
written_spelling tests c {after = after} heated w =
    let p = placed_text tests c w in
    (p.same, subst (λ (k : Case). SpellingOf k (take (length (spelling k)) after)) (sym p.same) (record { sound = heated_passes (heated p.sound); is_spelling = p.start }))

-- a spelling is asked for again: the tests find nothing, and its case is the one as spelled
written_again : (tests : List (Test Fault)) (d : Case) (before : List ℕ) {c : Case} {text after : List ℕ} {v : Verdict}
    → SpellingOf c text
    → length text ≤ length before
    → first_of tests ≡ none
    → d ≡ as_spelled c
    → Spells tests d before v after
    → (v ≡ Ok (as_spelled c)) × (take (length text) after ≡ text)
unfolding writable_verdict
written_again tests d before {c} {text} {after} {v} s l p e w =
    let same : spelling d ≡ text = ap spelling e ∙ spelling_again c ∙ sym s.is_spelling in
    let fits : length (spelling d) ≤ length before = subst (λ (t : List ℕ). length t ≤ length before) (sym same) l in
    let verdict : v ≡ Ok d = w.verdict ∙ accepts tests (length (spelling d)) (length before) d p fits in
    let start : take (length (spelling d)) after ≡ spelling d = (placed_text tests d (subst (λ (k : Verdict). Spells tests d before k after) verdict w)).start in
    (verdict ∙ ap {B = Verdict} Ok e, subst (λ (t : List ℕ). take (length t) after ≡ t) same start)

one_case : {c d : Case} {a b : List ℕ} → SpellingOf c a → SpellingOf d b → (a ≡ b) ↔ Agree c d
one_case {c} {d} s t = (
  λ e. one_agree (heated_by_lem c s.sound) (heated_by_lem d t.sound) (sym s.is_spelling ∙ e ∙ t.is_spelling),
  λ g. s.is_spelling ∙ agree_one g ∙ sym t.is_spelling,
)

spelled_frame : (frame before after : List ℕ) (c : Case) → SpellsFrame frame before (Ok c) after → (c ≡ fields_of frame) × SpellingOf c (take (length (spelling c)) after)
spelled_frame frame before after c w = written_spelling (frame_tests frame) (fields_of frame) (λ p. (frame_clear frame p).1) w

pub one_spelling : OneSpelling
one_spelling =
    record {
      standard_lengths = λ c e. (standard_length c e, short_spelling c e);
      other_lengths = λ c e. (other_length c e, long_spelling c e);
      frame_written = frame_read;
      frame_spelled = spelled_frame;
      line_spelled = λ line before after c w. written_spelling (line_tests line) (fields_of (bytes_of line)) (λ p. (line_clear line p).2) w;
      line_again =
          λ c text before after v s l w.
          let h = heated_by_lem c s.sound in
          written_again (line_tests text) (fields_of (bytes_of text)) before s l (rw s.is_spelling (line_passes h)) (rw s.is_spelling (bytes_read h)) w;
      bytes_again =
          λ c text before after v s l w.
          let h = heated_by_lem c s.sound in
          written_again (frame_tests (bytes_of text)) (fields_of (bytes_of text)) before s l (rw s.is_spelling (bytes_pass h)) (rw s.is_spelling (bytes_read h)) w;
      same_case = λ c. spelled_agree (spelled_again c);
      alike = λ c d a b. one_case;
      frames_alike =
          λ f g before other a b c d v w.
          let s = spelled_frame f before a c v in
          let t = spelled_frame g other b d w in
          rw (sym s.0, sym t.0) (one_case s.1 t.1);
    }
