-- `sheet::Sheet::place` meets its contract: tests 7 and 17 in their order, then the case with its end. Assumes nothing.
use mathlib.Core.Path.{sym, ◌∙◌}
use Rattle.sheet.specs.Operations.{list_of}
use Rattle.sheet.specs.laws.Entering.{by_7, by_17, place_left, by_none}
use Rattle.sheet.proofs.Sheet.place.Goals as goal

pub returns-then-is_beyond : goal.returns-then-is_beyond
returns-then-is_beyond c =
    by_7 _ _ (sym c.is_beyond.ensures ∙ c.if-is_beyond.true)

pub returns-then-last-eq64 : goal.returns-then-last-eq64
unfolding list_of
returns-then-last-eq64 c =
    by_17 _ _ _ (sym c.is_beyond.ensures ∙ c.if-is_beyond.false) c.last-last.ensures c.if-last-eq64.true

pub put-requires : goal.put-requires
unfolding list_of
put-requires c =
    (c.last-last.ensures, place_left c.args.self.now _ c.last-last.ensures c.if-last-eq64.false)

pub returns : goal.returns
unfolding list_of
returns c =
    by_none _ _ _ _ c.last-last.result _ (sym c.is_beyond.ensures ∙ c.if-is_beyond.false) c.last-last.ensures c.if-last-eq64.false
    (rw c.air_of.ensures at c.pressure-ends.ensures) c.put.ensures
