-- What the calls on a lent sheet promise: one number, and every lent byte (request 7); its totals (request 8); frames of both lengths (request 11);
-- its cases stored by column (request 12).
use Rattle.std.specs.Prelude.{ℕ, ◌+◌, ◌≡◌, List, [], ◌∷◌, ◌++◌, length, ltb, Option, None, Some}
use Rattle.std.proofs.Math.Option as maybe
use Rattle.std.proofs.Math.Option.{none, some}
use Rattle.std.proofs.lemmas.List.Edits.{sets}
use Rattle.refusals.specs.Order.{Test, ◌when◌, first_of, held}
use Rattle.fields.specs.Bytes.{fields_of, frame_bytes}
use Rattle.frame.specs.declared.Refusal.TheVariants.{Space}
use Rattle.frame.specs.Refusals as answers
use Rattle.frame.specs.Tests.{frame_tests}
use Rattle.places.specs.declared.Held.{Held}
use Rattle.places.specs.Holes.{vacant, at}
use Rattle.totals.specs.Totals.{totals_of}
use Rattle.columns.specs.Stored.{with_bytes}
use Rattle.archive.specs.Archived.{archived}
use Rattle.sheet.specs.declared.Refusal.TheVariants.{Full}
use Rattle.sheet.specs.Refusals.{number, vacancy_number}
use Rattle.sheet.specs.Tests.{full, own_tests}
use Rattle.sheet.specs.Ends.{UpperEnd}
use Rattle.sheet.specs.Operations.{Operation, act}
use Rattle.sheet.specs.Operations as sheet
use Rattle.sheet_bytes.specs.Packing.{sheet_bytes, short, lent}

-- 8: too few bytes are lent
abbrev pub space : ℕ
space = answers.number Space

-- the calls that change a sheet, and what each does to the list that it stands for; a case is added with the end found
pub data Change : Type 0 where
  add : (frame : List ℕ) (upper : ℕ) → Change
  withdraw : (place : ℕ) → Change
  close : Change

abbrev pub operation : Change → Operation
operation (add frame u) = sheet.add_frame frame u
operation (withdraw k) = sheet.withdraw k
operation close = sheet.close

-- the tests, by the refusals' numbers: 1 to 7 of a case that is added, then 8 of the lent sheet, then 17 or 18
abbrev pub place_tests : (place : ℕ) (s : List ℕ) → List (Test ℕ)
place_tests k s = (space when short s) ∷ (vacancy_number (record {}) when vacant (at (lent s) k)) ∷ []

unfoldable pub tests : Change → (s : List ℕ) → List (Test ℕ)
tests (add frame u) s =
    held number (own_tests (frame_tests frame) (fields_of frame)) ++ (space when short s) ∷ (number Full when full (lent s)) ∷ []
tests (withdraw k) s = place_tests k s
tests close s = (space when short s) ∷ []

-- the bytes of the frame that is read at a place
abbrev pub frame_length : Option Held → ℕ
frame_length None = 0
frame_length (Some h) = length (frame_bytes h.case)

-- of reading a case, and last 8 of the area
unfoldable pub show_tests : (place : ℕ) (s : List ℕ) (room : ℕ) → List (Test ℕ)
show_tests k s room = place_tests k s ++ (space when ltb room (frame_length (at (lent s) k))) ∷ []

-- 0, or the number of the first test that applies
abbrev pub code : maybe.Option ℕ → ℕ
code none = 0
code (some n) = n

-- the sheet's bytes after an accepted call, those behind it as they were; a refusal leaves all
abbrev pub left : maybe.Option ℕ → (before : List ℕ) → List (Option Held) → List ℕ
left none before xs = sets before 0 (sheet_bytes xs)
left (some n) before xs = before

pub record Acts (c : Change) (before : List ℕ) (n : ℕ) (after : List ℕ) : Type 0 where
  pub returned : n ≡ code (first_of (tests c before))
  pub bytes : after ≡ left (first_of (tests c before)) before (act (lent before) (operation c)).list

-- the place is told; a refusal leaves the number as it was
abbrev pub told : maybe.Option ℕ → (before place : ℕ) → ℕ
told none before k = k
told (some n) before k = before

-- the end is open but for what `end` says of an accepted case
pub record Adds (frame before : List ℕ) (place n : ℕ) (after : List ℕ) (place_after : ℕ) : Type 0 where
  pub upper : ℕ
  pub acts : Acts (add frame upper) before n after
  pub end : first_of (tests (add frame upper) before) ≡ none → UpperEnd (fields_of frame) upper
  pub place_is : place_after ≡ told (first_of (tests (add frame upper) before)) place (length (lent before) + 1)

-- the frame of the case into the area's first bytes; a refusal leaves all, and a place without a case is refused
abbrev pub shown : maybe.Option ℕ → (area : List ℕ) → Option Held → List ℕ
shown none area (Some h) = sets area 0 (frame_bytes h.case)
shown none area None = area
shown (some n) area x = area

pub record Shows (k : ℕ) (sheet before : List ℕ) (n : ℕ) (after : List ℕ) : Type 0 where
  pub returned : n ≡ code (first_of (show_tests k sheet (length before)))
  pub area : after ≡ shown (first_of (show_tests k sheet (length before))) before (at (lent sheet) k)

-- the totals of the list that the bytes stand for, in three numbers; a refusal leaves them as they were
abbrev pub total_tests : (s : List ℕ) → List (Test ℕ)
total_tests s = (space when short s) ∷ []

pub record Totalled (s : List ℕ) (count greatest place n count_after greatest_after place_after : ℕ) : Type 0 where
  pub returned : n ≡ code (first_of (total_tests s))
  pub count_is : count_after ≡ told (first_of (total_tests s)) count (totals_of (lent s)).cases
  pub greatest_is : greatest_after ≡ told (first_of (total_tests s)) greatest (totals_of (lent s)).greatest
  pub place_is : place_after ≡ told (first_of (total_tests s)) place (totals_of (lent s)).place

-- the cases by column at the start of the area: 8 of the lent sheet, and last 8 of the area; a refusal leaves the area as it was
unfoldable pub archive_tests : (s : List ℕ) (room : ℕ) → List (Test ℕ)
archive_tests s room = (space when short s) ∷ (space when ltb room (length (archived (lent s)))) ∷ []

pub record Archives (s before : List ℕ) (n : ℕ) (after : List ℕ) : Type 0 where
  pub returned : n ≡ code (first_of (archive_tests s (length before)))
  pub area : after ≡ with_bytes (first_of (archive_tests s (length before))) (archived (lent s)) before
