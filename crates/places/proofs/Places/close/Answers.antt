-- `places::Places::close` meets its contract: the cases passed stand in front. Assumes nothing.
use borrow.Author.Rules.{rules}
use mathlib.Core.Path.{sym}
use Rattle.places.specs.Places.{stands_for}
use Rattle.places.proofs.Closes.{close_first, close_hole, close_case, close_last}
use Rattle.places.proofs.Places.close.Goals as goal
use Rattle.places.proofs.Places.close.Goals.{then-is_some, else-is_some}

pub loop-place-init : goal.loop-place-init
loop-place-init c =
    close_first _ (search rules)

pub loop-place-preserved : goal.loop-place-preserved
loop-place-preserved c =
    let inside = c.loop-place-test.true in
    elim c.if-is_some.branch [
      | then-is_some w ↦ rw (w.closed-is, w.n-is) (close_case c.loop-place.invariant inside (sym w.if-is_some.ensures))
      | else-is_some w ↦ rw (w.closed-is, w.n-is) (close_hole c.loop-place.invariant inside (sym w.if-is_some.ensures))
    ]

pub returns : goal.returns
unfolding stands_for
returns c =
    close_last c.loop-place.invariant c.loop-place-test.false
