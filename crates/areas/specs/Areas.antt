-- How much of an area was written into, told by its marks.
use Rattle.std.specs.Prelude.{ℕ, zero, suc, cond, List, [], ◌∷◌, ◌==◌, length, reverse}
use Rattle.std.specs.List.{take_while}

-- what each byte holds before
abbrev pub mark : ℕ
mark = 95

-- one byte before n that count
abbrev pub before : (byte n : ℕ) → ℕ
before b zero = cond (b == mark) 0 1
before b (suc n) = suc (suc n)

-- how many bytes there are up to the last that is no mark
unfoldable pub written_in : List ℕ → ℕ
written_in [] = 0
written_in (b ∷ rest) = before b (written_in rest)

-- how many marks an area ends in
abbrev pub marks_of : List ℕ → ℕ
marks_of area = length (take_while (λ b. b == mark) (reverse area))
