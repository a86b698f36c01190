-- `sheet_bytes::put_place` meets its contract: zeros, and over them a case with its end and its air pressure. Assumes nothing.
use mathlib.Core.Path.{refl}
use Rattle.sheet_bytes.specs.Packing.{place_bytes}
use Rattle.sheet_bytes.proofs.Blocks.{zeros, case_stored}
use Rattle.sheet_bytes.proofs.put_place.Goals as goal

pub returns-in-Some : goal.returns-in-Some
returns-in-Some c =
    rw c.in-Some.is
    (case_stored _ _ _ _ _ _ 22 _ refl (zeros _ _ c.requires (c.fill.ensures.after (λ y e. e))) c.put.ensures c.write_first.ensures
    c.put-in-Some.ensures c.air_word.ensures c.put-in-Some-2.ensures)

pub returns-in_default : goal.returns-in_default
unfolding place_bytes
returns-in_default c =
    rw c.in_default.is (zeros _ _ c.requires (c.fill.ensures.after (λ y e. e)))
