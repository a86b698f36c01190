-- `writing::spell_frame` meets its contract: tests 1 to 6, then test 8 and the spelling. Assumes nothing.
use Rattle.fields.specs.Bytes.{fields_of}
use Rattle.frame.specs.Tests.{frame_tests}
use Rattle.frame.specs.Checks.{frame_checked}
use Rattle.writable.specs.laws.Writing.{writes}
use Rattle.writing.proofs.spell_frame.Goals as goal

pub returns : goal.returns
unfolding frame_checked
returns c =
    let frame = c.args.frame.now in
    writes (frame_tests frame) (fields_of frame) c.check_frame.ensures c.write_spelling.ensures
