-- `fields::size_of` meets its contract: the standard pressure takes no bytes. Assumes nothing.
use mathlib.Core.Path.{sym}
use Rattle.fields.specs.laws.Back.{standard_length, other_length}
use Rattle.fields.proofs.size_of.Goals as goal

pub returns-then-c-eq-STANDARD : goal.returns-then-c-eq-STANDARD
returns-then-c-eq-STANDARD c =
    sym (standard_length _ c.if-c-eq-STANDARD.true)

pub returns-else-c-eq-STANDARD : goal.returns-else-c-eq-STANDARD
returns-else-c-eq-STANDARD c =
    sym (other_length _ c.if-c-eq-STANDARD.false)
