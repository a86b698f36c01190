-- Where each byte goes. Assumes nothing.
use Rattle.std.specs.Prelude.{ℕ, zero, suc, ◌+◌, ◌*◌, ◌<◌, ◌≡◌, refl, List, [], ◌∷◌, ◌++◌, length, get_or}
use Rattle.std.proofs.Common.{sym, ap, ◌∙◌, append_assoc, append-nil, not-suc-le-zero, arith, length-append, get_or-append-add}
use Rattle.std.proofs.Math.ListN.{get_or-append}
use Rattle.columns.specs.Transposed.{column, columns_from, transposed}

pub length_column : (n p d : ℕ) (xs : List ℕ) → length (column n p d xs) ≡ n
unfolding column
length_column zero p d xs = refl
length_column (suc n) p d xs = ap suc (length_column n (p + d) d xs)

-- one byte more, at the end
pub column_next : (n p d : ℕ) (xs : List ℕ) → column (suc n) p d xs ≡ column n p d xs ++ (get_or xs (p + n * d) 0 ∷ [])
unfolding column
column_next zero p d xs = let e : p + 0 * d ≡ p = omega arith in rw e
column_next (suc n) p d xs =
    let e : p + d + n * d ≡ p + suc n * d = omega arith in
    ap (λ (t : List ℕ). get_or xs p 0 ∷ t) (column_next n (p + d) d xs ∙ rw e)

get_d_column : (n p d : ℕ) (xs : List ℕ) (i : ℕ) → i < n → get_or (column n p d xs) i 0 ≡ get_or xs (p + i * d) 0
unfolding column
get_d_column zero p d xs i l = absurd (not-suc-le-zero l)
get_d_column (suc n) p d xs zero l = let e : p + 0 * d ≡ p = omega arith in rw e
get_d_column (suc n) p d xs (suc i) l =
    let e : p + d + i * d ≡ p + suc i * d = omega arith in
    get_d_column n (p + d) d xs i (omega arith) ∙ rw e

pub length_columns : (k j rows width : ℕ) (xs : List ℕ) → length (columns_from k j rows width xs) ≡ k * rows
unfolding columns_from
length_columns zero j rows width xs = omega arith
length_columns (suc k) j rows width xs =
    omega (arith, length-append (column rows j width xs) (columns_from k (suc j) rows width xs), length_column rows j width xs, length_columns k (suc j) rows width xs)

-- one column more, at the end
pub columns_next
    : (k j rows width : ℕ) (xs : List ℕ) →
    columns_from (suc k) j rows width xs ≡ columns_from k j rows width xs ++ column rows (j + k) width xs
unfolding columns_from
columns_next zero j rows width xs = let e : j + 0 ≡ j = omega arith in rw e (append-nil (column rows j width xs))
columns_next (suc k) j rows width xs =
    let e : suc j + k ≡ j + suc k = omega arith in
    ap (λ (t : List ℕ). column rows j width xs ++ t) (rw e at (columns_next k (suc j) rows width xs))
    ∙ sym (append_assoc (column rows j width xs) (columns_from k (suc j) rows width xs) (column rows (j + suc k) width xs))

-- byte i of the m-th of these columns
get_d_columns
    : (k j rows width : ℕ) (xs : List ℕ) (m i : ℕ) →
    m < k →
    i < rows →
    get_or (columns_from k j rows width xs) (m * rows + i) 0 ≡ get_or xs (j + m + i * width) 0
unfolding columns_from
get_d_columns zero j rows width xs m i l h = absurd (not-suc-le-zero l)
get_d_columns (suc k) j rows width xs zero i l h =
    let here : 0 * rows + i ≡ i = omega arith in
    let same : j + 0 + i * width ≡ j + i * width = omega arith in
    rw (here, same)
    (get_or-append (column rows j width xs) (columns_from k (suc j) rows width xs) 0 i (omega (arith, length_column rows j width xs))
    ∙ get_d_column rows j width xs i h)
get_d_columns (suc k) j rows width xs (suc m) i l h =
    let past : suc m * rows + i ≡ length (column rows j width xs) + (m * rows + i) = omega (arith, length_column rows j width xs) in
    let same : suc j + m + i * width ≡ j + suc m + i * width = omega arith in
    rw past
    (get_or-append-add (column rows j width xs) (columns_from k (suc j) rows width xs) (m * rows + i) 0
    ∙ rw same at (get_d_columns k (suc j) rows width xs m i (omega arith) h))

pub length_transposed : (rows width : ℕ) (xs : List ℕ) → length (transposed rows width xs) ≡ width * rows
unfolding transposed
length_transposed rows width xs = length_columns width 0 rows width xs

-- byte j of row i comes to place i of column j
pub get_d_transposed
    : (rows width : ℕ) (xs : List ℕ) (i j : ℕ) →
    i < rows →
    j < width →
    get_or (transposed rows width xs) (j * rows + i) 0 ≡ get_or xs (i * width + j) 0
unfolding transposed
get_d_transposed rows width xs i j l h =
    let same : 0 + j + i * width ≡ i * width + j = omega arith in
    rw same at (get_d_columns width 0 rows width xs j i h l)
