-- How many bytes an answer has. Assumes nothing.
use Rattle.std.specs.Prelude.{ℤ, ℕ, ◌≡◌, refl, length}
use Rattle.byte_numbers.specs.Numbers.{two, four}
use Rattle.layout.specs.declared.Five.{Five}
use Rattle.layout.specs.declared.Interval.{Interval}
use Rattle.layout.specs.Bytes.{words, signeds, halves}
use Rattle.layout.specs.Places.{wave_bytes, probit_of, probit_bytes, damage_of, damage_bytes, range_byte, answer_bytes}

pub answer_length_lem : (range : ℕ) (pressure impulse : Interval ℕ) (probits : Five (Interval ℤ)) (damages : Five (Interval ℕ)) → length (answer_bytes range pressure impulse probits damages) ≡ 77
unfolding answer_bytes range_byte wave_bytes probit_bytes probit_of damage_bytes damage_of words signeds halves four two
answer_length_lem range pressure impulse probits damages = refl
