-- The records of an output (document 01, "The program `reckon`"). ASCII throughout.
use Rattle.std.specs.Prelude.{ℕ, suc, ◌≡◌, List, [], ◌∷◌, ◌++◌, Err, Ok}
use Rattle.frame.specs.Verdict.{Verdict}
use Rattle.frame.specs.Refusals.{number}
use Rattle.frame.specs.Verdicts.{line_verdict}
use Rattle.hexadecimals.specs.Written.{digits_of}
use Rattle.answer.specs.Answer.{Answer}
use Rattle.text.specs.Lines.{lf}
use Rattle.text.specs.Digits.{decimal}

-- R and the refusal's number, or A and the answer frame's digits
unfoldable pub said : (v : Verdict) (frame : List ℕ) → List ℕ
said (Err r) frame = 82 ∷ decimal (number r)
said (Ok c) frame = 65 ∷ digits_of frame

-- of an accepted case the frame is an answer, of 77 bytes and so 154 digits
unfoldable pub Answers : (v : Verdict) (frame : List ℕ) → Type 0
Answers (Err r) frame = Unit {0}
Answers (Ok c) frame = Answer c frame

-- the bytes printed for line k of an input: its number, a space, what its verdict says, LF. Open are the ends of an answer's intervals
pub record Record (k : ℕ) (line text : List ℕ) : Type 0 where
  pub frame : List ℕ
  pub answers : Answers (line_verdict line 77) frame
  pub printed : text ≡ decimal k ++ (32 ∷ said (line_verdict line 77) frame) ++ (lf ∷ [])

-- the records of the lines, numbered from k on, one after the other
pub data Text : (k : ℕ) (lines : List (List ℕ)) (text : List ℕ) → Type 0 where
  none : {k : ℕ} → Text k [] []
  one
      : {k : ℕ} {line text : List ℕ} {lines : List (List ℕ)} {rest : List ℕ} →
      Record k line text →
      Text (suc k) lines rest →
      Text k (line ∷ lines) (text ++ rest)

-- room for a record: 20 digits of a number, a space, A and 154 digits, LF take 177 bytes
abbrev pub longest : ℕ
longest = 192
