-- `fields::air_in` meets its contract, by the frame's length. Assumes nothing.
use mathlib.Core.Path.{sym, ◌∙◌}
use Rattle.fields.specs.laws.Back.{standard_in, written_in_lem}
use Rattle.fields.proofs.air_in.Goals as goal

pub returns-then-frame-eq24 : goal.returns-then-frame-eq24
returns-then-frame-eq24 c =
    c.number_at.ensures.number ∙ sym (written_in_lem _ c.if-frame-eq24.true)

pub returns-else-frame-eq24 : goal.returns-else-frame-eq24
returns-else-frame-eq24 c =
    sym (standard_in _ c.if-frame-eq24.false)
