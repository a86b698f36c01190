-- Storing the cases of lent bytes, from what the places that they stand for store. Assumes nothing.
use Prim.Native.Nat.{ℕ, ◌≤◌, ◌<◌}
use mathlib.Core.Path.{◌≡◌, refl, sym, ap, ◌∙◌}
use mathlib.Core.Bool.{Bool, true, false, cond}
use mathlib.Core.List.{List}
use mathlib.Core.Option.{none, some}
use Rattle.std.specs.Prelude.{Option, Result, Ok, Err}
use lib.Dec.{ltb}
use lib.ListN.{length}
use lib.Seq.{sets}
use borrow.Author.Tests.{lt-ltb, le-ltb}
use Rattle.refusals.specs.Order.{first_of}
use Rattle.places.specs.declared.Held.{Held}
use Rattle.places.specs.declared.Places.{Places}
use Rattle.places.specs.Holes.{trim}
use Rattle.places.specs.Places.{stands_for}
use Rattle.columns.specs.declared.Shortage.{Shortage}
use Rattle.columns.specs.Refusals.{storing_code}
use Rattle.columns.specs.Stored.{Stores}
use Rattle.archive.specs.Archived.{archived}
use Rattle.sheet_bytes.specs.Packing.{unpacked, size, lent}
use Rattle.sheet_bytes.specs.laws.Lent.{enough_lent}
use Rattle.lent_sheet.specs.Calls.{space, archive_tests, Archives}

pub short_archive : (s area : List ℕ) → length s < size → Archives s area space area
unfolding archive_tests first_of
short_archive s area h =
    let first : first_of (archive_tests s (length area)) ≡ some space = simp (lt-ltb (length s) size h) in
    record { returned = rw first refl; area = rw first refl }

-- the list that unpacked places stand for
pub unpacked_list : (s : List ℕ) (places : Places) → size ≤ length s → places.all ≡ unpacked 64 s → stands_for places ≡ lent s
unfolding stands_for
unpacked_list s places room e = ap trim e ∙ sym (enough_lent s room)

pub archive_stored : {s area : List ℕ} {xs : List (Option Held)} {v : Result ℕ Shortage} {n : ℕ} {after : List ℕ} → size ≤ length s → xs ≡ lent s → Stores (archived xs) area v after → n ≡ storing_code v
    → Archives s area n after
unfolding archive_tests first_of
archive_stored {s} {area} {xs} {v} {n} {after} room same w e = go (ltb (length area) (length bytes)) refl w.verdict w.area
  where
    bytes : List ℕ
    bytes = archived xs

    go : (b : Bool) → ltb (length area) (length bytes) ≡ b → v ≡ cond b (Err (record {})) (Ok (length bytes)) → after ≡ cond b area (sets area 0 bytes) → Archives s area n after
    go true few verdict stands =
        let first : first_of (archive_tests s (length area)) ≡ some space = simp (le-ltb (length s) size room, ← same, few) in
        record { returned = rw first (e ∙ ap storing_code verdict); area = rw first stands }
    go false few verdict stands =
        let first : first_of (archive_tests s (length area)) ≡ none = simp (le-ltb (length s) size room, ← same, few) in
        record { returned = rw first (e ∙ ap storing_code verdict); area = rw (first, ← same) stands }
