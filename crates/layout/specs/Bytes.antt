-- The two ends of an interval in bytes, and two's complement in 32 bits (document 01, "The answer frame"). Assumes nothing.
use Rattle.std.specs.Prelude.{ℕ, suc, ◌-◌, ◌^◌, List, ◌++◌, ℤ, pos, negsuc}
use Rattle.byte_numbers.specs.Numbers.{two, four}

-- a signed number in two's complement
unfoldable pub twos : ℤ → ℕ
twos (pos a) = a
twos (negsuc a) = 2 ^ 32 - suc a

-- the two ends of an interval
unfoldable pub words : (lower upper : ℕ) → List ℕ
words lower upper = four lower ++ four upper

unfoldable pub signeds : (lower upper : ℤ) → List ℕ
signeds lower upper = four (twos lower) ++ four (twos upper)

unfoldable pub halves : (lower upper : ℕ) → List ℕ
halves lower upper = two lower ++ two upper
