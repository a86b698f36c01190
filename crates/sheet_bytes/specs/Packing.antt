-- A study sheet as lent bytes: 64 places of 32 bytes, one after the other (request 7), with each case the upper end that is kept (request 8) and its
-- air pressure (request 11).
use Rattle.std.specs.Prelude.{ℕ, zero, suc, ◌*◌, Bool, cond, List, [], ◌∷◌, ◌++◌, length, take, drop, replicate, eqb, ltb, Option, None, Some}
use Rattle.guidance.specs.declared.Case.{Case}
use Rattle.guidance.specs.AirPressure.{standard, in_air}
use Rattle.byte_numbers.specs.Numbers.{one_at, two_at, four_at, one, two, four}
use Rattle.fields.specs.Bytes.{fields_of, first_bytes}
use Rattle.places.specs.declared.Held.{Held}
use Rattle.places.specs.Holes.{trim}

-- an air pressure as it is kept, and read: 0 stands for the standard one, so that a sheet from before request 11 is read as it was
unfoldable pub air_word : ℕ → ℕ
air_word air = cond (eqb air standard) 0 air

unfoldable pub air_of_word : ℕ → ℕ
air_of_word n = cond (eqb n 0) standard n

-- a hole is 32 zeros; a case is 1, the first 22 bytes of its frame, its upper end in 4, its air pressure in 2, and 3 zeros
unfoldable pub place_bytes : Option Held → List ℕ
place_bytes None = replicate 32 0
place_bytes (Some h) = one 1 ++ first_bytes h.case ++ four h.upper ++ two (air_word h.case.air) ++ replicate 3 0

-- places one after the other
unfoldable pub packed : List (Option Held) → List ℕ
packed [] = []
packed (x ∷ xs) = place_bytes x ++ packed xs

-- n places: a list cut to them, or filled up with holes
unfoldable pub pad : (n : ℕ) → List (Option Held) → List (Option Held)
pad zero xs = []
pad (suc n) [] = None ∷ pad n []
pad (suc n) (x ∷ xs) = x ∷ pad n xs

-- the bytes of the sheet that stands for a list
abbrev pub sheet_bytes : List (Option Held) → List ℕ
sheet_bytes xs = packed (pad 64 xs)

-- what 32 bytes say: nothing where the first is 0, else the case of the next 22, with the end in the next 4, in the air of the next 2
abbrev pub case_in : List ℕ → Case
case_in place = in_air (fields_of (take 22 (drop 1 place))) (air_of_word (two_at place 27))

unfoldable pub held_in : List ℕ → Option Held
held_in place = cond (eqb (one_at place 0) 0) None (Some (record { case = case_in place; upper = four_at place 23 }))

-- what place i + 1 holds
abbrev pub read_at : List ℕ → (i : ℕ) → Option Held
read_at s i = held_in (take 32 (drop (32 * i) s))

-- what the first n places hold
unfoldable pub unpacked : (n : ℕ) → List ℕ → List (Option Held)
unpacked zero s = []
unpacked (suc n) s = held_in (take 32 s) ∷ unpacked n (drop 32 s)

-- the bytes of a sheet, 64 × 32; whether fewer are lent
abbrev pub size : ℕ
size = 2048

abbrev pub short : List ℕ → Bool
short s = ltb (length s) size

-- the list that lent bytes stand for; too few stand for none
unfoldable pub lent : List ℕ → List (Option Held)
lent s = cond (short s) [] (trim (unpacked 64 s))
