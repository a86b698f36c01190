-- `text::digits::put_hexadecimal` meets its contract: the digits stand at the area's start. Assumes nothing.
use mathlib.Core.Path.{sym, ◌∙◌}
use native.Mathlib.Omega.{arith}
use Rattle.hexadecimals.specs.laws.Writing.{length_digits, digits_first}
use Rattle.text.proofs.digits.put_hexadecimal.Goals as goal

pub returns : goal.returns
returns c =
    let bytes = c.args.bytes.now in
    record { size = sym (length_digits bytes); short = omega arith; bytes = c.write.ensures ∙ digits_first bytes c.args.out.now c.requires }
