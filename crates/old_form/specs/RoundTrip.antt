-- What holds of the two ways together (requests 3 and 11).
use Rattle.std.specs.Prelude.{ℕ, ◌≤◌, ◌≡◌, ◌↔◌, true, List, T, length, take, Err, Ok}
use Rattle.std.proofs.Math.Option.{none}
use Rattle.std.proofs.Math.Pow.{are_bytes}
use Rattle.guidance.specs.declared.Case.{Case}
use Rattle.guidance.specs.AirPressure.{standard}
use Rattle.refusals.specs.Order.{first_of}
use Rattle.hexadecimals.specs.Digits.{bytes_of}
use Rattle.hexadecimals.specs.Written.{upper_case}
use Rattle.fields.specs.Bytes.{fields_of, frame_bytes}
use Rattle.frame.specs.Tests.{frame_tests}
use Rattle.to_old.specs.declared.Refusal.TheVariants.{Air}
use Rattle.old_case.specs.Exactly.{AllExactly}
use Rattle.old_bytes.specs.Bytes.{old_of}
use Rattle.from_old.specs.Tests.{line_verdict}
use Rattle.to_old.specs.Tests.{frame_verdict}
use Rattle.to_old.specs.Entry.{old_line}

-- bytes that pass tests 1 to 6
pub record Sound (frame : List ℕ) : Type 0 where
  pub bytes : T (are_bytes frame)
  pub passes : first_of (frame_tests frame) ≡ none

pub record RoundTrip : Type 0 where
  -- every frame that passes tests 1 to 6 in the standard air goes to the old form, and its line comes in with the same case
  pub frame_goes : (frame : List ℕ) (room : ℕ) → Sound frame → (fields_of frame).air ≡ standard → 116 ≤ room → frame_verdict frame room ≡ Ok (fields_of frame)
  pub frame_comes : (frame : List ℕ) (room : ℕ) → Sound frame → (fields_of frame).air ≡ standard → 22 ≤ room → line_verdict (old_line (fields_of frame)) room ≡ Ok (fields_of frame)
  -- that case's frame is the frame, if it has 22 bytes; if it has 24, its first 22
  pub frame_unchanged : (frame : List ℕ) → Sound frame → length frame ≡ 22 → ((fields_of frame).air ≡ standard) × (frame_bytes (fields_of frame) ≡ frame)
  pub frame_shortened : (frame : List ℕ) → Sound frame → length frame ≡ 24 → (fields_of frame).air ≡ standard → frame_bytes (fields_of frame) ≡ take 22 frame
  -- in another air a frame does not go, whatever the area
  pub frame_stays : (frame : List ℕ) (room : ℕ) → Sound frame → ((fields_of frame).air ≡ standard → ⊥) → frame_verdict frame room ≡ Err Air
  -- the frame of an accepted old line has 22 bytes, passes tests 1 to 6 and holds its case, so that it goes back to the case's line
  pub line_goes : (line : List ℕ) (room : ℕ) (c : Case) → line_verdict line room ≡ Ok c → (length (frame_bytes c) ≡ 22) × Sound (frame_bytes c) × (fields_of (frame_bytes c) ≡ c)
  -- that is the line itself just where every double is such a nearest one and no letter is small
  pub line_unchanged : (line : List ℕ) (room : ℕ) (c : Case) → line_verdict line room ≡ Ok c → (old_line c ≡ line) ↔ (AllExactly (old_of (bytes_of line)) × (upper_case line ≡ true))
