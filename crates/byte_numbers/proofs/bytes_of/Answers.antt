-- `byte_numbers::bytes_of` meets its contract: each byte is a shifted number's last. Assumes nothing.
use Rattle.std.proofs.Common.{sym}
use Rattle.byte_numbers.proofs.Sizes.{eight_listed}
use Rattle.byte_numbers.proofs.bytes_of.Goals as goal

pub returns : goal.returns
returns c =
    rw (c.low_byte.ensures, c.low_byte-2.ensures, c.low_byte-3.ensures, c.low_byte-4.ensures, c.low_byte-5.ensures, c.low_byte-6.ensures, c.low_byte-7.ensures, c.low_byte-8.ensures)
    (sym (eight_listed c.args.v))
