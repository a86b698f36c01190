-- From zero bytes, after any sequence of calls, the cases of the plain list are stored by column, and turned back they are its cases (request 12). Assumes nothing.
use Rattle.std.specs.Prelude.{ℕ, ◌*◌, ◌≤◌, ◌≡◌, List, [], ◌++◌, length, replicate, get_or, take, drop, Option, None, Some, Result, Ok}
use Rattle.std.proofs.Common.{◌∙◌}
use Rattle.std.proofs.Math.Path.{ap}
use Rattle.std.proofs.Math.Option.{none}
use Rattle.std.proofs.lemmas.List.Edits.{sets}
use borrow.Author.Tests.{le-ltb}
use Rattle.refusals.specs.Order.{first_of}
use Rattle.fields.specs.Bytes.{fields_of}
use Rattle.places.specs.declared.Held.{Held}
use Rattle.places.specs.Holes.{closed, Each}
use Rattle.places.specs.laws.Kept.{each_closed, each_at}
use Rattle.columns.specs.declared.Refusal.{Refusal}
use Rattle.columns.specs.Stored.{Restores}
use Rattle.archive.specs.Archived.{frames_of, archived}
use Rattle.archive.specs.laws.RoundTrip.{turned_back, case_again}
use Rattle.sheet.specs.Operations.{Operation}
use Rattle.sheet.specs.Runs.{after}
use Rattle.sheet.specs.laws.Rightly.{RightlyHeld}
use Rattle.sheet_bytes.specs.Packing.{size, lent}
use Rattle.sheet_bytes.specs.laws.Lent.{lent_plain}
use Rattle.lent_sheet.specs.Calls.{code, archive_tests, Archives}
use Rattle.lent_sheet.specs.Runs.{Reply, Run}
use Rattle.lent_sheet.specs.laws.Sequences.{from_zeros, room_from_zeros, rightly_from_zeros}

module _ {rest : List ℕ} {operations : List Operation} {replies : List Reply} {t : List ℕ} (run : Run (replicate size 0 ++ rest) operations replies t) where
  abbrev cases : List (Option Held)
  cases = after [] operations

  list : lent t ≡ cases
  list = (from_zeros run).0

  pub archived_from_zeros : {before stands : List ℕ} {n : ℕ} → Archives t before n stands → length (archived cases) ≤ length before → (n ≡ 0) × (stands ≡ sets before 0 (archived cases))
  unfolding archive_tests first_of
  archived_from_zeros {before} a room =
      let first : first_of (archive_tests t (length before)) ≡ none = simp (le-ltb (length t) size (room_from_zeros run), list, le-ltb (length before) (length (archived cases)) room) in
      (a.returned ∙ ap code first, rw (first, list) at a.area)

  most : length cases ≤ 64
  most = rw list at (lent_plain t (room_from_zeros run)).most

  pub turned_back_from_zeros
      : {before stands : List ℕ} {v : Result ℕ Refusal} →
      Restores (archived cases) before v stands →
      24 * length (closed cases) ≤ length before →
      (v ≡ Ok (24 * length (closed cases))) × (stands ≡ sets before 0 (frames_of cases))
  turned_back_from_zeros r room = turned_back cases most r room

  -- each of these frames is read as its case again
  pub cases_from_zeros : (i : ℕ) (h : Held) → get_or (closed cases) i None ≡ Some h → fields_of (take 24 (drop (24 * i) (frames_of cases))) ≡ h.case
  cases_from_zeros i h e =
      let rightly : Each RightlyHeld cases = rw list at (rightly_from_zeros run) in
      case_again cases i h e (each_at RightlyHeld (closed cases) i h (each_closed RightlyHeld cases rightly) e).accepted.fields
