-- What a caller is told of a refusal, for every type of refusals (document 01, "Refused cases").
use Rattle.std.specs.Prelude.{ℕ, ◌-◌, ◌≤◌, ◌<◌, List, ◌++◌, length, replicate, Result, Ok, Err}

-- a word filled with zeros to n bytes, and to 12
abbrev pub filled_to : ℕ → List ℕ → List ℕ
filled_to n w = w ++ replicate (n - length w) 0

abbrev pub filled : List ℕ → List ℕ
filled w = filled_to 12 w

-- 0 for what is accepted, else the number of the refusal
abbrev pub code : {T R : Type 0} → (R → ℕ) → Result T R → ℕ
code number (Ok x) = 0
code number (Err r) = number r

-- no refusal has the number 0, and 12 bytes hold every word
abbrev pub Tells : {R : Type 0} → (R → ℕ) → (R → List ℕ) → Type 0
Tells number word = ((r : _) → 0 < number r) × ((r : _) → length (word r) ≤ 12)
