-- A finite double's size as a fraction over its 64 bits (request 3): the sign apart, it is units / 2 ^ 1074.
use Rattle.std.specs.Prelude.{ℕ, zero, suc, ◌+◌, ◌-◌, ◌*◌, ◌/◌, ◌^◌}
use Rattle.std.specs.Int.Bits.{bit_and}

-- eleven bits below the sign, and the 52 below those
abbrev pub exponent : (bits : ℕ) → ℕ
exponent bits = bit_and (bits / 2 ^ 52) (2 ^ 11 - 1)

abbrev pub fraction : (bits : ℕ) → ℕ
fraction bits = bit_and bits (2 ^ 52 - 1)

-- an exponent of 0 has no leading digit
abbrev pub units : (exponent fraction : ℕ) → ℕ
units zero t = t
units (suc j) t = (2 ^ 52 + t) * 2 ^ j
