-- The lines of an input (document 01, "The program `reckon`").
use Rattle.std.specs.Prelude.{ℕ, cond, List, [], ◌∷◌, ◌++◌, eqb}

-- LF, at which a line ends; a character is any other byte
abbrev pub lf : ℕ
lf = 10

-- the lines that end within an input, when the characters p of the first are known before it
unfoldable pub ended : (p input : List ℕ) → List (List ℕ)
ended p [] = []
ended p (b ∷ input) = cond (eqb b lf) (p ∷ ended [] input) (ended (p ++ (b ∷ [])) input)

-- the characters after the last LF
unfoldable pub left : (p input : List ℕ) → List ℕ
left p [] = p
left p (b ∷ input) = cond (eqb b lf) (left [] input) (left (p ++ (b ∷ [])) input)

-- characters that no LF follows are a line too; none are no line
unfoldable pub last_line : List ℕ → List (List ℕ)
last_line [] = []
last_line (b ∷ line) = (b ∷ line) ∷ []

unfoldable pub lines_of : List ℕ → List (List ℕ)
lines_of input = ended [] input ++ last_line (left [] input)
