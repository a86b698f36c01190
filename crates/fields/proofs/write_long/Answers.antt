-- `fields::write_long` meets its contract: the first 22 bytes, and behind them the air pressure. Assumes nothing.
use native.Mathlib.Omega.{arith}
use Rattle.byte_numbers.specs.laws.Storing.{and_then}
use Rattle.fields.specs.Bytes.{long_frame}
use Rattle.fields.specs.laws.Back.{first_length}
use Rattle.fields.proofs.write_long.Goals as goal

pub returns : goal.returns
unfolding long_frame
returns c =
    and_then c.write_first.ensures c.put.ensures (omega (arith, first_length c.args.c))
