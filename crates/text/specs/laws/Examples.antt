-- Known numbers, lines and texts, by computation; the text of document 01's three lines. Assumes nothing.
use Rattle.std.specs.Prelude.{ℕ, ◌≡◌, refl, List, [], ◌∷◌, ◌++◌, replicate, Err}
use Rattle.refusals.specs.declared.Fault.TheVariants.{Length, Digit, Placement, Heat}
use Rattle.hexadecimals.specs.Written.{upper, digits_of}
use Rattle.frame.specs.declared.Refusal.{Refusal}
use Rattle.frame.specs.declared.Refusal.TheVariants.{Faulty}
use Rattle.frame.specs.Refusals.{number}
use Rattle.frame.specs.Verdicts.{line_verdict}
use Rattle.frame.specs.laws.Examples.{third_line, placement_line, examples}
use Rattle.text.specs.Lines.{lf, ended, left, last_line, lines_of}
use Rattle.text.specs.Digits.{places, decimal}
use Rattle.text.specs.Records.{said, Answers, Record, Text}
use Rattle.text.specs.Records.Text.{none, one}

decimal_0 : decimal 0 ≡ 48 ∷ []
unfolding decimal places
decimal_0 = refl

decimal_1 : decimal 1 ≡ 49 ∷ []
unfolding decimal places
decimal_1 = refl

decimal_10 : decimal 10 ≡ 49 ∷ 48 ∷ []
unfolding decimal places
decimal_10 = refl

decimal_1234567890 : decimal 1234567890 ≡ 49 ∷ 50 ∷ 51 ∷ 52 ∷ 53 ∷ 54 ∷ 55 ∷ 56 ∷ 57 ∷ 48 ∷ []
unfolding decimal places
decimal_1234567890 = refl

-- the bytes 0, 9F and AB
hexadecimal_digits : digits_of (0 ∷ 159 ∷ 171 ∷ []) ≡ 48 ∷ 48 ∷ 57 ∷ 70 ∷ 65 ∷ 66 ∷ []
unfolding digits_of upper
hexadecimal_digits = refl

no_lines : lines_of [] ≡ []
unfolding lines_of ended left last_line
no_lines = refl

-- a last LF makes no further line
one_line : lines_of (65 ∷ lf ∷ []) ≡ (65 ∷ []) ∷ []
unfolding lines_of ended left last_line
one_line = refl

-- a last line may lack it, CR and NUL are characters, and an empty line is a line
three_lines : lines_of (65 ∷ 13 ∷ lf ∷ lf ∷ 0 ∷ 66 ∷ []) ≡ (65 ∷ 13 ∷ []) ∷ [] ∷ (0 ∷ 66 ∷ []) ∷ []
unfolding lines_of ended left last_line
three_lines = refl

-- the record of a refused line is open in nothing
refused : {line : List ℕ} (k : ℕ) (r : Refusal) → line_verdict line 77 ≡ Err r → Record k line (decimal k ++ (32 ∷ 82 ∷ decimal (number r)) ++ (lf ∷ []))
unfolding said Answers
refused k r e = record { frame = []; answers = rw e tt; printed = rw e }

-- an empty line, 44 letters G, and the third line, with no LF at its end: 1 R1, 2 R2, 3 R6
three_records
    : Text
    1
    (lines_of (lf ∷ replicate 44 71 ++ (lf ∷ third_line)))
    (49 ∷ 32 ∷ 82 ∷ 49 ∷ lf ∷ 50 ∷ 32 ∷ 82 ∷ 50 ∷ lf ∷ 51 ∷ 32 ∷ 82 ∷ 54 ∷ lf ∷ [])
unfolding lines_of ended left last_line decimal places
three_records = one (refused 1 (Faulty Length) examples.empty_line) (one (refused 2 (Faulty Digit) examples.letters_G) (one (refused 3 (Faulty Heat) examples.third_line_lem) none))

-- a number of two digits stands whole: 7 R13
seventh_record : Record 7 placement_line (55 ∷ 32 ∷ 82 ∷ 49 ∷ 51 ∷ lf ∷ [])
unfolding decimal places
seventh_record = refused 7 (Faulty Placement) examples.placement_line_lem
