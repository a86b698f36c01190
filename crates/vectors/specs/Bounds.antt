-- A figure of an answer between two numbers of the data, as document 01 calls it near or a paper prints it.
use Rattle.std.specs.Prelude.{ℕ, ◌+◌, ◌*◌, Bool, false, ◌&&◌, if◌then◌else◌, List, ◌==◌, nat_le, nat_lt}
use Rattle.byte_numbers.specs.Numbers.{two_at, four_at}
use Rattle.scan.specs.Words.{lead_of, value_of, after_word}
use Rattle.vectors.specs.declared.bounds.Held.{Held}
use Rattle.vectors.specs.Figures.{raised_word, raised}

-- an end of the i-th of an answer's twelve figures, raised by 200,000: pressure, impulse, five probits in thousandths, five damages in tenths of a percent.
-- The first seven stand in four bytes from `word` on, the others in two from `half` on
abbrev pub end_at : (area : List ℕ) (i word half : ℕ) → ℕ
end_at area i word half = if nat_lt i 7 then raised_word (four_at area (word + 8 * i)) else (200000 + two_at area (half + 4 * i))

-- two raised ends lie between two raised numbers
abbrev pub between : (lower upper least most : ℕ) → Bool
between lower upper least most = nat_le least lower && nat_le upper most

-- the number of a text's first word, raised
abbrev pub bound_of : List ℕ → ℕ
bound_of text = raised 200000 (lead_of text) (value_of text)

-- the line was accepted, and both ends of its i-th figure lie between two raised numbers; with the ends
abbrev pub held_at : (area : List ℕ) (given i least most : ℕ) → Held
held_at area given i least most =
    record {
      near = given == 0 && between (end_at area i 1 29) (end_at area i 5 31) least most;
      ends = record { lower = end_at area i 1 29; upper = end_at area i 5 31 };
    }

-- a figure of the data is its number below 12, the two numbers, the line, and a name; one of another number is not near, and its ends are 0
abbrev pub held_of : (text : List ℕ) (given : ℕ) (area : List ℕ) → Held
held_of text given area =
    if nat_lt (value_of text) 12
    then held_at area given (value_of text) (bound_of (after_word text)) (bound_of (after_word (after_word text)))
    else record { near = false; ends = record { lower = 0; upper = 0 } }
