-- A file's bytes as the digits of one number to the base 256, and its remainder by a prime.
use Rattle.std.specs.Prelude.{ℕ, ◌+◌, ◌*◌, ◌%◌, List}
use Rattle.std.specs.List.{fold}

abbrev pub prime : ℕ
prime = 1000000007

-- the remainder with one byte more
abbrev pub next : (sum byte : ℕ) → ℕ
next sum byte = (256 * sum + byte) % prime

abbrev pub sum_of : List ℕ → ℕ
sum_of bytes = fold next 0 bytes
