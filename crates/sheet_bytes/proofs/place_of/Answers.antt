-- `sheet_bytes::place_of` meets its contract: the first byte tells. Assumes nothing.
use mathlib.Core.Path.{ap, ap₂, ◌∙◌}
use Rattle.guidance.specs.AirPressure.{in_air}
use Rattle.sheet_bytes.specs.Packing.{air_of_word}
use Rattle.sheet_bytes.specs.laws.Places.{hole_read, case_read}
use Rattle.sheet_bytes.proofs.place_of.Goals as goal

pub returns-then-s-eq0 : goal.returns-then-s-eq0
returns-then-s-eq0 c =
    hole_read _ c.if-s-eq0.true

pub returns : goal.returns
unfolding in_air
returns c =
    case_read _ _ c.if-s-eq0.false (ap₂ in_air c.read-case.ensures (c.air_of_word.ensures ∙ ap air_of_word c.number_at.ensures.number))
    c.number_at-upper.ensures.number
