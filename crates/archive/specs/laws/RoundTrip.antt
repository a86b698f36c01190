-- Turning back gives the frames of a sheet's cases, in 24 bytes each: whatever sheet, of 0 to 64 cases. Assumes nothing.
use Rattle.std.specs.Prelude.{ℕ, ◌+◌, ◌*◌, ◌≤◌, ◌≡◌, false, List, get_or, take, drop, Option, None, Some, Result, Ok}
use Rattle.std.proofs.Math.Option.{none}
use Rattle.std.proofs.Math.Path.{ap}
use Rattle.std.proofs.Common.{◌∙◌, arith}
use Rattle.std.proofs.Math.ListN.{length}
use Rattle.std.proofs.lemmas.List.Edits.{sets}
use borrow.Author.Tests.{le-ltb}
use Rattle.guidance.specs.Cases.{Fields}
use Rattle.refusals.specs.Order.{first_of}
use Rattle.fields.specs.Bytes.{fields_of}
use Rattle.fields.specs.laws.Back.{long_again}
use Rattle.places.specs.declared.Held.{Held}
use Rattle.places.specs.Holes.{closed}
use Rattle.places.specs.laws.Closings.{closed_length}
use Rattle.columns.specs.declared.Refusal.{Refusal}
use Rattle.columns.specs.Stored.{Frames, restored, damaged, restore_tests, Restores}
use Rattle.columns.specs.laws.RoundTrip.{length_stored, stored_whole, restored_stored}
use Rattle.archive.specs.Archived.{frames_of, archived}
use Rattle.archive.specs.laws.Frames.{frames_length, frame_at_lem}

pub archived_length : (xs : List (Option Held)) → length (archived xs) ≡ 1 + 24 * length (closed xs)
unfolding archived
archived_length xs = length_stored (length (closed xs)) (frames_of xs)

module _ (xs : List (Option Held)) (most : length xs ≤ 64) where
  pub are_frames : Frames (length (closed xs)) (frames_of xs)
  are_frames = record { most = omega (arith, closed_length xs); size = frames_length xs }

  -- what was stored is never refused by 20
  pub archived_whole : damaged (archived xs) ≡ false
  unfolding archived
  archived_whole = stored_whole (length (closed xs)) (frames_of xs) are_frames

  pub restored_archived : restored (archived xs) ≡ frames_of xs
  unfolding archived
  restored_archived = restored_stored (length (closed xs)) (frames_of xs) are_frames

  -- with room for them, the frames stand at the start of the area
  pub turned_back
      : {before after : List ℕ} {v : Result ℕ Refusal} →
      Restores (archived xs) before v after →
      24 * length (closed xs) ≤ length before →
      (v ≡ Ok (24 * length (closed xs))) × (after ≡ sets before 0 (frames_of xs))
  unfolding restore_tests first_of
  turned_back {before} r room =
      let same = restored_archived in
      let size : length (restored (archived xs)) ≡ 24 * length (closed xs) = ap length same ∙ frames_length xs in
      let first : first_of (restore_tests (archived xs) (length before)) ≡ none = simp (archived_whole, le-ltb (length before) (length (restored (archived xs))) (omega arith)) in
      (rw first at r.verdict ∙ ap Ok size, rw first at r.area ∙ ap (sets before 0) same)

-- and each is read as its case again
pub case_again : (xs : List (Option Held)) (i : ℕ) (h : Held) → get_or (closed xs) i None ≡ Some h → Fields h.case → fields_of (take 24 (drop (24 * i) (frames_of xs))) ≡ h.case
case_again xs i h e f = ap fields_of (frame_at_lem xs i h e) ∙ long_again h.case f
