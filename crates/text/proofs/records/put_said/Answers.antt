-- `text::records::put_said` meets its contract: a letter, and behind it a number or a frame's digits. Assumes nothing.
use native.Mathlib.Omega.{arith}
use lib.Dec.{lit≤}
use Rattle.text.specs.Records.{said}
use Rattle.text.proofs.Behind.{tagged, widened}
use Rattle.text.proofs.records.put_said.Goals as goal

pub returns-in-Err : goal.returns-in-Err
unfolding said
returns-in-Err c =
    let refused = c.in-Err.is in
    let number = c.number.ensures in
    rw (refused, ← number) (widened 155 (lit≤ tt) (tagged 82 (omega arith) c.put_decimal.ensures))

pub returns-in-Ok : goal.returns-in-Ok
unfolding said
returns-in-Ok c =
    let accepted = c.in-Ok.is in
    rw accepted (widened 155 (omega arith) (tagged 65 (omega arith) c.put_hexadecimal.ensures))
