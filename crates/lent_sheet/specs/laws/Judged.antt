-- Where enough bytes are lent, a call is refused just where the sheet's operation is. Assumes nothing.
use Rattle.std.specs.Prelude.{ℕ, ◌≤◌, ◌≡◌, refl, Bool, true, false, List, [], ◌∷◌, ltb, length, Option, None, Some}
use Rattle.std.proofs.Math.Option as maybe
use Rattle.std.proofs.Math.Option.{none, some}
use Rattle.std.proofs.Common.{arith, le-ltb}
use Rattle.refusals.specs.Order.{◌when◌, first_of}
use Rattle.refusals.proofs.laws.Order.{or_else, first_held, first_append}
use Rattle.fields.specs.Bytes.{fields_of, frame_bytes}
use Rattle.fields.specs.laws.Back.{frame_most}
use Rattle.frame.specs.Tests.{frame_tests}
use Rattle.places.specs.declared.Held.{Held}
use Rattle.places.specs.Holes.{vacant, at}
use Rattle.sheet.specs.declared.Refusal.{Refusal}
use Rattle.sheet.specs.declared.Refusal.TheVariants.{Full}
use Rattle.sheet.specs.Refusals.{number, vacancy_number}
use Rattle.sheet.specs.Tests as sheets
use Rattle.sheet.specs.Operations.{finding, adding, found_in, found, held_of, refusal, act}
use Rattle.sheet_bytes.specs.Packing.{size, lent}
use Rattle.lent_sheet.specs.Calls.{space, Change, add, withdraw, close, operation, tests, frame_length, show_tests, total_tests}

adds_number : (own : maybe.Option Refusal) (xs : List (Option Held)) (h : Held) (full : Bool)
    → or_else number own (first_of ((space when false) ∷ (number Full when full) ∷ [])) ≡ refusal (adding (or_else (λ (r : Refusal). r) own (first_of ((Full when full) ∷ []))) xs h).told
unfolding first_of adding
adds_number none xs h true = refl
adds_number none xs h false = refl
adds_number (some r) xs h full = refl

place_judged : (x : Option Held) → first_of ((space when false) ∷ (vacancy_number (record {}) when vacant x) ∷ []) ≡ refusal (finding (found_in x))
unfolding first_of
place_judged None = refl
place_judged (Some c) = refl

pub judged : (c : Change) (s : List ℕ) → size ≤ length s → first_of (tests c s) ≡ refusal (act (lent s) (operation c)).told
unfolding tests act found first_of sheets.add_tests
judged (add frame u) s h =
    let own = sheets.own_tests (frame_tests frame) (fields_of frame) in
    rw (
      le-ltb (length s) size h,
      first_held number own ((space when false) ∷ (number Full when sheets.full (lent s)) ∷ []),
      first_append own ((Full when sheets.full (lent s)) ∷ []),
    )
    (adds_number (first_of own) (lent s) (held_of (fields_of frame) u) (sheets.full (lent s)))
judged (withdraw k) s h = rw (le-ltb (length s) size h) (place_judged (at (lent s) k))
judged close s h = rw (le-ltb (length s) size h) refl

-- of reading, with room for a frame
pub show_judged : (k : ℕ) (s : List ℕ) (room : ℕ) → size ≤ length s → 24 ≤ room → first_of (show_tests k s room) ≡ refusal (finding (found_in (at (lent s) k)))
unfolding show_tests first_of
show_judged k s room h l = rw (le-ltb (length s) size h) (go (at (lent s) k))
  where
    go : (x : Option Held) → first_of ((space when false) ∷ (vacancy_number (record {}) when vacant x) ∷ (space when ltb room (frame_length x)) ∷ []) ≡ refusal (finding (found_in x))
    go None = refl
    go (Some c) = simp (le-ltb room (length (frame_bytes c.case)) (omega (arith, frame_most c.case)))

-- of the totals
pub total_judged : (s : List ℕ) → size ≤ length s → first_of (total_tests s) ≡ none
unfolding first_of
total_judged s h = rw (le-ltb (length s) size h) refl
