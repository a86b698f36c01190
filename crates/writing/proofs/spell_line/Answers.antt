-- `writing::spell_line` meets its contract: tests 1 to 6, then test 8 and the spelling. Assumes nothing.
use Rattle.hexadecimals.specs.Digits.{bytes_of}
use Rattle.fields.specs.Bytes.{fields_of}
use Rattle.frame.specs.Tests.{line_tests}
use Rattle.frame.specs.Checks.{line_checked}
use Rattle.writable.specs.laws.Writing.{writes}
use Rattle.writing.proofs.spell_line.Goals as goal

pub returns : goal.returns
unfolding line_checked
returns c =
    let line = c.args.line.now in
    writes (line_tests line) (fields_of (bytes_of line)) c.check_line.ensures c.write_spelling.ensures
