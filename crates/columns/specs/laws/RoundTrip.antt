-- What was stored is never refused by 20, and turning back restores the same frames. Assumes nothing.
use Prim.Native.Nat.{ℕ, suc, ◌+◌, ◌*◌, ◌/◌, ◌%◌, ◌<◌}
use Rattle.std.specs.Prelude.{◌≡◌, false, List, length, get_or}
use Rattle.std.proofs.Common.{sym, ◌∙◌, div-add-mod', div-lt_iff_lt-mul, mod-lt, arith, ext_get_or}
use borrow.Author.Tests.{le-ltb, eq-eqb}
use Rattle.columns.specs.Transposed.{transposed}
use Rattle.columns.specs.Stored.{Frames, stored, restored, damaged}
use Rattle.columns.specs.laws.Cells.{length_transposed, get_d_transposed}

module _ (rows width : ℕ) (xs : List ℕ) where
  abbrev back : List ℕ
  back = transposed width rows (transposed rows width xs)

  back_length : length back ≡ rows * width
  back_length = length_transposed width rows (transposed rows width xs)

  -- byte j of row i goes to row j of the columns, and back
  cell : (i j : ℕ) → i < rows → j < width → get_or back (i * width + j) 0 ≡ get_or xs (i * width + j) 0
  cell i j l h = get_d_transposed width rows (transposed rows width xs) j i h l ∙ get_d_transposed rows width xs i j l h

  cells : 0 < width → (p : ℕ) → p < rows * width → get_or back p 0 ≡ get_or xs p 0
  cells some_width p l =
      let place : p / width * width + p % width ≡ p = div-add-mod' p width in
      rw place at (cell (p / width) (p % width) ((div-lt_iff_lt-mul some_width).1 l) (mod-lt p some_width))

  pub transposed_twice : 0 < width → length xs ≡ rows * width → back ≡ xs
  transposed_twice some_width size =
      ext_get_or 0 back xs (back_length ∙ sym size) (λ p l. cells some_width p (omega (arith, back_length)))

module _ (n : ℕ) (frames : List ℕ) where
  pub length_stored : length (stored n frames) ≡ 1 + 24 * n
  unfolding stored
  length_stored = omega (arith, length_transposed n 24 frames)

  module _ (f : Frames n frames) where
    pub stored_whole : damaged (stored n frames) ≡ false
    unfolding damaged stored
    stored_whole =
        let size : suc (length (transposed n 24 frames)) ≡ 1 + 24 * n = omega (arith, length_transposed n 24 frames) in
        rw (le-ltb 64 n f.most, eq-eqb (suc (length (transposed n 24 frames))) (1 + 24 * n) size)

    pub restored_stored : restored (stored n frames) ≡ frames
    unfolding stored restored
    restored_stored = transposed_twice n 24 frames (omega arith) (omega (arith, f.size))
