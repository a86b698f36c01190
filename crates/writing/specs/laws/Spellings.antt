-- A spelling read back: as bytes, as a line, as a case. Assumes nothing.
use Rattle.std.specs.Prelude.{ℕ, ◌*◌, ◌≡◌, refl, Bool, true, false, eqb, length}
use Rattle.std.proofs.Common.{sym, ap, ◌∙◌, eqb-true}
use Rattle.std.proofs.Math.Option.{none}
use Rattle.std.proofs.lemmas.Bool.{eqb-false}
use Rattle.guidance.specs.declared.Case.{Case}
use Rattle.guidance.specs.AirPressure.{standard}
use Rattle.guidance.specs.CloudWords.{Heated}
use Rattle.hexadecimals.specs.Digits.{all_digits, bytes_of}
use Rattle.hexadecimals.specs.Written.{digits_of}
use Rattle.hexadecimals.specs.laws.Writing.{length_digits}
use Rattle.hexadecimals.specs.laws.Written.{bytes_of_digits, all_digits_lem}
use Rattle.refusals.specs.Order.{first_of}
use Rattle.fields.specs.Bytes.{fields_of, frame_bytes}
use Rattle.fields.specs.laws.Back.{frame_length_lem, standard_length, other_length, frame_bytes_lem, fields_again}
use Rattle.limits.specs.laws.Fields.{heated_passes}
use Rattle.frame.specs.Tests.{either, frame_tests, line_tests}
use Rattle.frame.specs.laws.Lengths.{is_first, is_second}
use Rattle.frame.specs.laws.Checks.{frame_passes, line_frame}
use Rattle.writing.specs.Spelling.{as_spelled, spelling, Agree}
use Rattle.writing.specs.laws.Cases.{spelled_heated, spelled_again, agree_spelled, spelled_agree}

-- the case as it is spelled has the frame's length
spelled_length : (c : Case) → length (frame_bytes (as_spelled c)) ≡ length (frame_bytes c)
unfolding as_spelled
spelled_length c = frame_length_lem (as_spelled c) ∙ sym (frame_length_lem c)

pub spelling_length : (c : Case) → length (spelling c) ≡ 2 * length (frame_bytes c)
unfolding spelling
spelling_length c = length_digits (frame_bytes (as_spelled c)) ∙ ap (λ (n : ℕ). 2 * n) (spelled_length c)

-- 44 characters in the standard air, 48 in another
pub short_spelling : (c : Case) → c.air ≡ standard → length (spelling c) ≡ 44
short_spelling c e = spelling_length c ∙ ap (λ (n : ℕ). 2 * n) (standard_length c e)

pub long_spelling : (c : Case) → (c.air ≡ standard → ⊥) → length (spelling c) ≡ 48
long_spelling c e = spelling_length c ∙ ap (λ (n : ℕ). 2 * n) (other_length c e)

spelling_either : (c : Case) → either 44 48 (spelling c) ≡ true
spelling_either c = go (eqb c.air standard) refl
  where
    go : (b : Bool) → eqb c.air standard ≡ b → either 44 48 (spelling c) ≡ true
    go true e = is_first 44 48 (spelling c) (short_spelling c (eqb-true c.air standard e))
    go false e = is_second 44 48 (spelling c) (long_spelling c (eqb-false c.air standard e))

spelling_bytes : (c : Case) → bytes_of (spelling c) ≡ frame_bytes (as_spelled c)
unfolding spelling
spelling_bytes c = bytes_of_digits (frame_bytes (as_spelled c)) (frame_bytes_lem (as_spelled c))

spelling_digits : (c : Case) → all_digits (spelling c) ≡ true
unfolding spelling
spelling_digits c = all_digits_lem (frame_bytes (as_spelled c)) (frame_bytes_lem (as_spelled c))

module _ {c : Case} (h : Heated c) where
  -- a spelling stands for the case as it is spelled
  pub bytes_read : fields_of (bytes_of (spelling c)) ≡ as_spelled c
  bytes_read = ap fields_of (spelling_bytes c) ∙ fields_again (as_spelled c) (spelled_heated h).fields

  -- and passes tests 1 to 6, as bytes and as a line
  pub bytes_pass : first_of (frame_tests (bytes_of (spelling c))) ≡ none
  bytes_pass = let s = spelled_heated h in rw (spelling_bytes c) (frame_passes s.fields (heated_passes s))

  pub line_passes : first_of (line_tests (spelling c)) ≡ none
  line_passes = line_frame (spelling c) (spelling_either c) (spelling_digits c) ∙ bytes_pass

pub spelling_again : (c : Case) → spelling (as_spelled c) ≡ spelling c
unfolding spelling
spelling_again c = ap (λ (d : Case). digits_of (frame_bytes d)) (spelled_again c)

-- cases that agree have one spelling, and cases of one spelling agree
pub agree_one : {c d : Case} → Agree c d → spelling c ≡ spelling d
unfolding spelling
agree_one a = ap (λ (p : Case). digits_of (frame_bytes p)) (agree_spelled a)

pub one_agree : {c d : Case} → Heated c → Heated d → spelling c ≡ spelling d → Agree c d
one_agree h k e = spelled_agree (sym (bytes_read h) ∙ (λ i. fields_of (bytes_of (e i))) ∙ bytes_read k)
