-- `layout::put_wave` meets its contract: each part is stored after the one before. Assumes nothing.
use borrow.Author.Rules.{rules}
use Rattle.byte_numbers.specs.Numbers.{four}
use Rattle.layout.specs.Bytes.{words}
use Rattle.layout.specs.Places.{wave_bytes}
use Rattle.byte_numbers.specs.laws.Storing.{and_then}
use Rattle.layout.proofs.put_wave.Goals as goal

pub returns : goal.returns
unfolding wave_bytes words four
returns c =
    search (rules, and_then)
