-- What storing and turning back leave of an area. Assumes nothing.
use Prim.Native.Nat.{ℕ, suc, ◌+◌, ◌*◌, ◌-◌, ◌≤◌, ◌<◌}
use Rattle.std.specs.Prelude.{Ok, Err}
use mathlib.Core.Logic.{◌⊎◌, inl, inr}
use mathlib.Core.Path.{◌≡◌, refl, sym, ap, ◌∙◌}
use mathlib.Core.Bool.{true, false}
use mathlib.Core.List.{List, [], ◌∷◌, ◌++◌}
use mathlib.Core.Option.{Option, none, some}
use native.Mathlib.Omega.{arith}
use lib.ListN.{length, drop, set, length-set}
use borrow.Author.Tests.{lt-ltb, le-ltb, eq-eqb, ne_eqb}
use borrow.Rule.Slice.PartMut.{put_mid}
use Rattle.byte_numbers.specs.Storing.{Stored}
use Rattle.byte_numbers.specs.laws.Storing.{and_then, whole_part, at_start}
use Rattle.refusals.specs.Order.{first_of}
use Rattle.columns.specs.declared.Refusal.{Refusal}
use Rattle.columns.specs.declared.Refusal.TheVariants.{Columns, Space}
use Rattle.columns.specs.Transposed.{transposed}
use Rattle.columns.specs.Stored.{stored, restored, damaged, restore_tests, Stores, Restores}
use Rattle.columns.specs.laws.Cells.{length_transposed}
use Rattle.columns.specs.laws.RoundTrip.{length_stored}

-- storing

module _ (n : ℕ) (frames area : List ℕ) where
  abbrev bytes : List ℕ
  bytes = stored n frames

  pub store_short : length area < 1 + 24 * n → Stores bytes area (Err (record {})) area
  store_short l =
      let few = lt-ltb (length area) (length bytes) (omega (arith, length_stored n frames)) in
      record { verdict = rw few refl; area = rw few refl }

  -- the number ahead, and the columns in the part behind it
  pub store_written
      : (columns : List ℕ) →
      1 + 24 * n ≤ length area →
      columns ≡ transposed n 24 frames →
      Stores bytes area (Ok (1 + 24 * n)) (put_mid 1 (1 + 24 * n - 1) (set area 0 n) columns)
  unfolding stored
  store_written columns l e =
      let enough = le-ltb (length area) (length bytes) (omega (arith, length_stored n frames)) in
      let ahead : Stored area 0 (n ∷ []) (set area 0 n) = record { all = refl } in
      let behind = whole_part {L = set area 0 n} 1 (1 + 24 * n - 1) e (omega (arith, length_transposed n 24 frames)) (omega (arith, length-set area 0 n)) in
      record {
        verdict = rw enough (ap Ok (sym (length_stored n frames)));
        area = rw enough (and_then ahead behind refl).all;
      }

-- turning back

module _ (from area : List ℕ) where
  abbrev first : Option Refusal
  first = first_of (restore_tests from (length area))

  refused_by : (r : Refusal) → first ≡ some r → Restores from area (Err r) area
  refused_by r e = record { verdict = rw e refl; area = rw e refl }

  refused_damaged : damaged from ≡ true → Restores from area (Err Columns) area
  unfolding restore_tests first_of
  refused_damaged e = refused_by Columns (simp e)

pub restore_empty : (from area : List ℕ) → length from ≡ 0 → Restores from area (Err Columns) area
unfolding damaged
restore_empty [] area e = refused_damaged [] area refl
restore_empty (x ∷ from) area e = absurd (omega arith)

module _ (n : ℕ) (columns area : List ℕ) where
  pub restore_damaged : (64 < n) ⊎ ((n ≤ 64) × (length columns ≡ 24 * n → ⊥)) → Restores (n ∷ columns) area (Err Columns) area
  unfolding damaged
  restore_damaged (inl l) = refused_damaged (n ∷ columns) area (simp (lt-ltb 64 n l))
  restore_damaged (inr h) =
      let other : suc (length columns) ≡ 1 + 24 * n → ⊥ = λ e. h.1 (omega arith) in
      refused_damaged (n ∷ columns) area (simp (le-ltb 64 n h.0, ne_eqb (suc (length columns)) (1 + 24 * n) other))

  module _ (few : n ≤ 64) (size : length columns ≡ 24 * n) where
    whole : damaged (n ∷ columns) ≡ false
    unfolding damaged
    whole =
        let same : suc (length columns) ≡ 1 + 24 * n = omega arith in
        simp (le-ltb 64 n few, eq-eqb (suc (length columns)) (1 + 24 * n) same)

    restored_is : restored (n ∷ columns) ≡ transposed 24 n columns
    unfolding restored
    restored_is = refl

    restored_length : length (restored (n ∷ columns)) ≡ 24 * n
    restored_length = ap length restored_is ∙ (length_transposed 24 n columns ∙ omega arith)

    pub restore_short : length area < 24 * n → Restores (n ∷ columns) area (Err Space) area
    unfolding restore_tests first_of
    restore_short l =
        refused_by (n ∷ columns) area Space (simp (whole, lt-ltb (length area) (length (restored (n ∷ columns))) (omega (arith, restored_length))))

    pub restore_written
        : (frames : List ℕ) →
        24 * n ≤ length area →
        frames ≡ transposed 24 n columns →
        Restores (n ∷ columns) area (Ok (24 * n)) (frames ++ drop (24 * n) area)
    unfolding restore_tests first_of
    restore_written frames l e =
        let enough : length (restored (n ∷ columns)) ≤ length area = omega (arith, restored_length) in
        let none_found : first (n ∷ columns) area ≡ none = simp (whole, le-ltb (length area) (length (restored (n ∷ columns))) enough) in
        let same : frames ≡ restored (n ∷ columns) = e ∙ sym restored_is in
        record {
          verdict = rw none_found (ap Ok (sym restored_length));
          area = rw none_found (rw (same, ← restored_length) (sym (at_start area (restored (n ∷ columns)) enough)));
        }
