-- `layout::put_answer` meets its contract: each writer's part is said of the whole. Assumes nothing.
use mathlib.Core.Path.{refl}
use borrow.Author.Rules.{rules}
use Rattle.byte_numbers.specs.Numbers.{two, four}
use Rattle.layout.specs.Bytes.{words, signeds, halves}
use Rattle.layout.specs.Places.{range_byte, wave_bytes, probit_of, probit_bytes, damage_of, damage_bytes, answer_bytes}
use Rattle.byte_numbers.specs.laws.Storing.{and_then, through_part}
use Rattle.layout.proofs.put_answer.Goals as goal

pub returns : goal.returns
unfolding answer_bytes range_byte wave_bytes words probit_bytes probit_of signeds four damage_bytes damage_of halves two
returns c =
    (and_then
    (and_then (and_then c.put_range.ensures (through_part 1 16 c.put_wave.ensures (search rules) (search rules)) refl)
    (through_part 17 40 c.put_probits.ensures (search rules) (search rules)) refl)
    (through_part 57 20 c.put_damages.ensures (search rules) (search rules)) refl).all
