-- Rows of bytes written column by column (request 12).
use Rattle.std.specs.Prelude.{ℕ, zero, suc, ◌+◌, List, [], ◌∷◌, ◌++◌, get_or}

-- the byte at a place, and that of each further row
unfoldable pub column : (rows place width : ℕ) → List ℕ → List ℕ
column zero place width xs = []
column (suc rows) place width xs = get_or xs place 0 ∷ column rows (place + width) width xs

-- so many columns from column j on
unfoldable pub columns_from : (columns j rows width : ℕ) → List ℕ → List ℕ
columns_from zero j rows width xs = []
columns_from (suc columns) j rows width xs = column rows j width xs ++ columns_from columns (suc j) rows width xs

-- of rows that follow one another, all first bytes, then all second bytes, and so on
unfoldable pub transposed : (rows width : ℕ) → List ℕ → List ℕ
transposed rows width xs = columns_from width 0 rows width xs
