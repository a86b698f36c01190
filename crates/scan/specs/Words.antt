-- The lines and the words of a text, and the numbers that words spell.
use Rattle.std.specs.Prelude.{ℕ, ◌+◌, ◌-◌, ◌*◌, cond, Bool, ◌&&◌, ◌||◌, List, [], ◌∷◌, ◌==◌, nat_le, slice_index}
use Rattle.std.specs.List.{fold, before_first, after_first}

-- a number of at most nineteen digits, and one digit more to spare
abbrev pub largest : ℕ
largest = 10000000000000000009

-- one digit more; any other byte, as the point, changes nothing, nor does a digit too many
abbrev pub shifted : (value byte : ℕ) → ℕ
shifted value b = cond (nat_le 48 b && nat_le b 57) (cond (nat_le value 1000000000000000000) (10 * value + (b - 48)) value) value

-- the number that the digits of a word spell
abbrev pub spelled : List ℕ → ℕ
spelled word = fold shifted 0 word

-- a space or LF ends a word
abbrev pub ends_word : ℕ → Bool
ends_word b = b == 32 || b == 10

-- the first byte of a text's first word, and the number that its digits spell; of no word both are 0
unfoldable pub lead_of : List ℕ → ℕ
lead_of text = slice_index text 0

unfoldable pub value_of : List ℕ → ℕ
value_of text = spelled (before_first ends_word text)

-- what is left behind the byte that ends it
unfoldable pub after_word : List ℕ → List ℕ
after_word text = after_first ends_word text

-- LF ends a line
abbrev pub ends_line : ℕ → Bool
ends_line b = b == 10

-- a byte before the first of some lines
abbrev pub onto : ℕ → List (List ℕ) → List (List ℕ)
onto b [] = (b ∷ []) ∷ []
onto b (line ∷ lines) = (b ∷ line) ∷ lines

-- the lines of a text, of which LF ends each but perhaps the last
unfoldable pub lines_of : List ℕ → List (List ℕ)
lines_of [] = []
lines_of (b ∷ text) = cond (ends_line b) ([] ∷ lines_of text) (onto b (lines_of text))
