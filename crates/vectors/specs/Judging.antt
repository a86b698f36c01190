-- When the answer to a vector of the separate calculation has a fault (docs/known_cases.md).
use Rattle.std.specs.Prelude.{ℕ, zero, suc, ◌+◌, min, Bool, true, false, not, ◌&&◌, if◌then◌else◌, List, Option, Some, None, ◌==◌, nat_eq, take, drop, slice_index}
use Rattle.std.specs.List.{list_all}
use Rattle.std.specs.Cmp.Lexicographic.{pointwise}
use Rattle.scan.specs.Words.{lead_of, value_of, after_word}
use Rattle.vectors.specs.declared.judging.Vector.{Vector}
use Rattle.vectors.specs.declared.judging.Expected.{Expected}
use Rattle.vectors.specs.declared.judging.Expected.TheVariants.{Accepted, Refused}
use Rattle.vectors.specs.declared.judging.Answer.{Answer}
use Rattle.vectors.specs.declared.judging.Finding.{Finding}
use Rattle.vectors.specs.declared.table.Entry.{Entry}
use Rattle.vectors.specs.Figures.{right}

-- what is left behind n words
unfoldable pub after_words : (n : ℕ) (text : List ℕ) → List ℕ
after_words zero text = text
after_words (suc n) text = after_words n (after_word text)

-- A with the range, or R with the refusal
abbrev pub expected_of : List ℕ → Expected
expected_of text = if lead_of text == 65 then Accepted (value_of text) else Refused (value_of text)

-- a vector: the room, at most 80; what is expected; the seven values of an accepted case; the line
abbrev pub vector_of : List ℕ → Vector
vector_of text = record { room = min (value_of text) 80; expected = expected_of (after_word text) }

abbrev pub values_of : List ℕ → List ℕ
values_of text = after_word (after_word text)

abbrev pub line_of : List ℕ → List ℕ
line_of text = if lead_of (after_word text) == 65 then after_words 7 (values_of text) else values_of text

-- bytes as they were before an answer
unfoldable pub untouched : List ℕ → Bool
untouched bytes = list_all (λ b. b == 170) bytes

-- the figures from the i-th on are right by the `left` values that a text begins with
unfoldable pub figures_right : (left i : ℕ) (text area : List ℕ) (table : List Entry) → Bool
figures_right zero i text area table = true
figures_right (suc left) i text area table =
    right area i (lead_of text) (value_of text) table && figures_right left (i + 1) (after_word text) area table

-- a case is accepted, in its range
unfoldable pub placed : (range : ℕ) (answer : Answer) → Bool
placed range answer = answer.verdict == 0 && slice_index answer.area 0 == range

-- an area has the seven figures, and the bytes past the 77 are as they were
abbrev pub filled_right : (values area : List ℕ) (table : List Entry) → Bool
filled_right values area table = untouched (take 3 (drop 77 area)) && figures_right 7 0 values area table

-- a case that is to be accepted: it is, in its range, with its seven figures, and the bytes past the 77 are as they were
abbrev pub accepted_right : (range : ℕ) (values : List ℕ) (answer : Answer) (table : List Entry) → Bool
accepted_right range values answer table = placed range answer && filled_right values answer.area table

-- one that is to be refused: it is, by the number, and all bytes are as they were
abbrev pub refused_right : (number : ℕ) (answer : Answer) → Bool
refused_right number answer = answer.verdict == number && untouched answer.area

-- the answer to a vector's line
abbrev pub answer_right : (expected : Expected) (values : List ℕ) (answer : Answer) (table : List Entry) → Bool
answer_right (Accepted range) values answer table = accepted_right range values answer table
answer_right (Refused number) values answer table = refused_right number answer

-- the frame that the line spells has the line's verdict and bytes
abbrev pub alike : (frame line : Answer) → Bool
alike frame line = frame.verdict == line.verdict && pointwise nat_eq frame.area line.area

abbrev pub is_accepted : Expected → Bool
is_accepted (Accepted range) = true
is_accepted (Refused number) = false

-- what is found, by what is expected and whether the answer to the line is right: a fault is a wrong answer to the line, or a frame that is answered otherwise
abbrev pub found : (accepted right : Bool) (line : Answer) (frame : Option Answer) → Finding
found accepted right line None = record { accepted = accepted; alike = false; faulty = not right }
found accepted right line (Some frame) = record { accepted = accepted; alike = alike frame line; faulty = not (right && alike frame line) }

-- what is found of a vector, by the answers to its line and to the frame that it spells
abbrev pub finding_of : (text : List ℕ) (line : Answer) (frame : Option Answer) (table : List Entry) → Finding
finding_of text line frame table =
    found
    (is_accepted (vector_of text).expected)
    (answer_right (vector_of text).expected (values_of text) line table)
    line
    frame
