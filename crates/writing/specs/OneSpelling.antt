-- What holds of frames from fields and of spellings (requests 9 and 11).
use Rattle.std.specs.Prelude.{ℕ, ◌≤◌, ◌≡◌, ◌↔◌, List, length, take, Ok}
use Rattle.std.proofs.Math.Option.{none}
use Rattle.guidance.specs.declared.Case.{Case}
use Rattle.guidance.specs.AirPressure.{standard}
use Rattle.hexadecimals.specs.Digits.{bytes_of}
use Rattle.refusals.specs.Order.{first_of}
use Rattle.fields.specs.Bytes.{fields_of, frame_bytes}
use Rattle.limits.specs.Tests.{field_tests}
use Rattle.frame.specs.Tests.{frame_tests}
use Rattle.writable.specs.Verdict.{Verdict}
use Rattle.writing.specs.Spelling.{as_spelled, spelling, Agree}
use Rattle.writing.specs.Entries.{FromFields, SpellsFrame, SpellsLine}

-- the text is the spelling of a case that passes tests 3 to 6
pub record SpellingOf (c : Case) (text : List ℕ) : Type 0 where
  pub sound : first_of (field_tests c) ≡ none
  pub is_spelling : text ≡ spelling c

-- a frame's bytes pass tests 1 to 6 and hold the case
pub record FrameOf (c : Case) (frame : List ℕ) : Type 0 where
  pub sound : first_of (frame_tests frame) ≡ none
  pub fields : fields_of frame ≡ c

pub record OneSpelling : Type 0 where
  -- 22 bytes and 44 characters in the standard air, 24 and 48 in another
  pub standard_lengths : (c : Case) → c.air ≡ standard → (length (frame_bytes c) ≡ 22) × (length (spelling c) ≡ 44)
  pub other_lengths : (c : Case) → (c.air ≡ standard → ⊥) → (length (frame_bytes c) ≡ 24) × (length (spelling c) ≡ 48)
  -- reading what was written from fields gives the fields
  pub frame_written : (c d : Case) (before after : List ℕ) → FromFields c before (Ok d) after → (d ≡ c) × FrameOf c (take (length (frame_bytes c)) after)
  -- what is written of a frame or a line is the spelling of its case
  pub frame_spelled : (frame before after : List ℕ) (c : Case) → SpellsFrame frame before (Ok c) after → (c ≡ fields_of frame) × SpellingOf c (take (length (spelling c)) after)
  pub line_spelled : (line before after : List ℕ) (c : Case) → SpellsLine line before (Ok c) after → (c ≡ fields_of (bytes_of line)) × SpellingOf c (take (length (spelling c)) after)
  -- spelling twice changes nothing: a spelling is accepted, as a line and as bytes, and is written as it is
  pub line_again : (c : Case) (text before after : List ℕ) (v : Verdict) → SpellingOf c text → length text ≤ length before → SpellsLine text before v after → (v ≡ Ok (as_spelled c)) × (take (length text) after ≡ text)
  pub bytes_again : (c : Case) (text before after : List ℕ) (v : Verdict) → SpellingOf c text → length text ≤ length before → SpellsFrame (bytes_of text) before v after → (v ≡ Ok (as_spelled c)) × (take (length text) after ≡ text)
  -- the case as it is spelled agrees with the case
  pub same_case : (c : Case) → Agree (as_spelled c) c
  -- two cases, from frames or from lines, have one spelling exactly when they agree
  pub alike : (c d : Case) (a b : List ℕ) → SpellingOf c a → SpellingOf d b → (a ≡ b) ↔ Agree c d
  -- so two frames get one spelling exactly when their fields agree
  pub frames_alike : (f g before other a b : List ℕ) (c d : Case) → SpellsFrame f before (Ok c) a → SpellsFrame g other (Ok d) b → (take (length (spelling c)) a ≡ take (length (spelling d)) b) ↔ Agree (fields_of f) (fields_of g)
