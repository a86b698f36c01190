-- `writing::from_fields` meets its contract: tests 3 to 6, then test 8 and the frame. Assumes nothing.
use Rattle.limits.specs.Tests.{field_tests}
use Rattle.writable.specs.laws.Writing.{writes}
use Rattle.writing.proofs.from_fields.Goals as goal

pub returns : goal.returns
returns c =
    let a = c.args in
    writes (field_tests a.c) a.c c.check.ensures c.write_frame.ensures
