-- One turn of writing a column, and one of writing all columns. Assumes nothing.
use Prim.Native.Nat.{ℕ, suc, ◌+◌, ◌*◌, ◌-◌, ◌≤◌, ◌<◌}
use mathlib.Core.Path.{◌≡◌, refl, sym, ap, ◌∙◌}
use mathlib.Core.List.{List, ◌++◌}
use native.Mathlib.Nat.{mul-le-mul_right, zero-add}
use native.Mathlib.Numerals.{add-one}
use native.Mathlib.Omega.{arith}
use lib.ListN.{length, get_or, take, drop, set, length-set, length-drop}
use lib.Seq.{sets, length-sets, take-suc-set, take_all, length-take-le}
use borrow.Rule.Slice.PartMut.{mid_of, put_mid}
use Rattle.byte_numbers.specs.laws.Storing.{and_then, whole_part, sets_all}
use Rattle.columns.specs.Transposed.{column, columns_from, transposed}
use Rattle.columns.specs.laws.Cells.{length_column, column_next, length_columns, columns_next}

-- i bytes of a column are written
pub record Column (from : List ℕ) (start width rows : ℕ) (to : List ℕ) (i : ℕ) : Type 0 where
  pub size : length to ≡ rows
  pub whole : length from ≡ rows * width
  pub first : start < width
  pub passed : i ≤ rows
  pub bytes : take i to ≡ column i start width from

pub column_first
    : (from to : List ℕ) (start width : ℕ) → start < width → length from ≡ length to * width → Column from start width (length to) to 0
unfolding column
column_first from to start width l e =
    record { size = refl; whole = e; first = l; passed = omega arith; bytes = refl }

module _ {from : List ℕ} {start width rows : ℕ} {to : List ℕ} {i : ℕ} (c : Column from start width rows to i) (l : i < rows) where
  -- the byte read
  pub column_inside : start + i * width < length from
  column_inside =
      let next : suc i ≤ rows = omega arith in
      omega (arith, mul-le-mul_right width next, c.first, c.whole)

  pub column_again : Column from start width rows (set to i (get_or from (start + i * width) 0)) (i + 1)
  column_again =
      record {
        size = length-set to i (get_or from (start + i * width) 0) ∙ c.size;
        whole = c.whole;
        first = c.first;
        passed = omega arith;
        bytes =
            rw (add-one i, take-suc-set to i (get_or from (start + i * width) 0) (omega (arith, c.size)), c.bytes)
            (sym (column_next i start width from));
      }

pub column_last
    : {from : List ℕ} {start width rows : ℕ} {to : List ℕ} {i : ℕ} →
    Column from start width rows to i →
    rows ≤ i →
    to ≡ column rows start width from
column_last {rows = rows} {to = to} {i = i} c l =
    let all : i ≡ rows = omega (arith, c.passed) in
    rw all at (sym (take_all i to (omega (arith, c.size))) ∙ c.bytes)

-- j columns are written
pub record Columns (from : List ℕ) (rows width : ℕ) (before to : List ℕ) (j : ℕ) : Type 0 where
  pub size : length before ≡ width * rows
  pub same : length to ≡ length before
  pub whole : length from ≡ rows * width
  pub passed : j ≤ width
  pub bytes : to ≡ sets before 0 (columns_from j 0 rows width from)

pub columns_first
    : (from to : List ℕ) (rows width : ℕ) → length from ≡ rows * width → length to ≡ width * rows → Columns from rows width to to 0
unfolding columns_from
columns_first from to rows width e f =
    record { size = f; same = refl; whole = e; passed = omega arith; bytes = refl }

module _ {from : List ℕ} {rows width : ℕ} {before to : List ℕ} {j : ℕ} (c : Columns from rows width before to j) (l : j < width) where
  pub columns_room : (j + 1) * rows ≤ length to
  columns_room =
      let next : suc j ≤ width = omega arith in
      omega (arith, mul-le-mul_right rows next, c.size, c.same)

  columns_wide : (j + 1) * rows - j * rows ≡ rows
  columns_wide = omega arith

  -- the part that is lent for a column
  pub columns_part : length (mid_of (j * rows) ((j + 1) * rows - j * rows) to) ≡ rows
  columns_part = rw columns_wide (length-take-le rows (drop (j * rows) to) (omega (arith, length-drop (j * rows) to, columns_room)))

  pub columns_again : (part : List ℕ) → part ≡ column rows j width from → Columns from rows width before (put_mid (j * rows) ((j + 1) * rows - j * rows) to part) (j + 1)
  columns_again part e =
      let passed = columns_from j 0 rows width from in
      let here : j * rows ≡ 0 + length passed = omega (arith, length_columns j 0 rows width from) in
      let long : length (column rows j width from) ≡ (j + 1) * rows - j * rows = length_column rows j width from ∙ sym columns_wide in
      let there = whole_part {L = to} (j * rows) ((j + 1) * rows - j * rows) e long (omega (arith, columns_room)) in
      let all = and_then {us = passed} (record { all = c.bytes }) there here in
      let next : passed ++ column rows j width from ≡ columns_from (j + 1) 0 rows width from
      = rw (add-one j) (sym (rw (zero-add j) at (columns_next j 0 rows width from))) in
      record {
        size = c.size;
        same = ap length all.all ∙ length-sets before 0 (passed ++ column rows j width from);
        whole = c.whole;
        passed = omega arith;
        bytes = all.all ∙ ap (sets before 0) next;
      }

pub columns_last
    : {from : List ℕ} {rows width : ℕ} {before to : List ℕ} {j : ℕ} →
    Columns from rows width before to j →
    width ≤ j →
    to ≡ transposed rows width from
unfolding transposed
columns_last {from} {rows} {width} {before} {j = j} c l =
    let all : j ≡ width = omega (arith, c.passed) in
    rw all at c.bytes ∙ sets_all before (columns_from width 0 rows width from) (omega (arith, length_columns width 0 rows width from, c.size))
