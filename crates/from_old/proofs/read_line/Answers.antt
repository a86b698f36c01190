-- Of 116 digits the tests of the bytes that they spell; else the length, or the character.
use Rattle.std.proofs.Common.{◌≡◌, Some, None, ap, sym, ◌∙◌, rules}
use Rattle.hexadecimals.specs.Spelling.{spelled}
use Rattle.hexadecimals.specs.laws.Spelling.{some_bytes, some_digits, none_digits}
use Rattle.from_old.specs.Steps.{bytes_reading}
use Rattle.from_old.specs.laws.Readings.{other_length, other_character, by_bytes}
use Rattle.from_old.proofs.read_line.Goals as goal

pub returns-then-line-ne-LINE : goal.returns-then-line-ne-LINE
returns-then-line-ne-LINE c =
    rw c.from.ensures (sym (other_length c.args.line.now c.if-line-ne-LINE.true))

pub returns-in_err-bytes : goal.returns-in_err-bytes
returns-in_err-bytes c =
    let none : spelled 58 c.args.line.now ≡ None = search rules in
    rw (other_character c.args.line.now (search rules) (none_digits _ _ none (search rules))) (search rules)

pub returns : goal.returns
returns c =
    let some : spelled 58 c.args.line.now ≡ Some c.in_ok-bytes.bytes = search rules in
    c.read_bytes.ensures ∙ ap bytes_reading (some_bytes _ _ some) ∙ sym (by_bytes c.args.line.now (search rules) (some_digits _ _ some))
