-- `receptor::farthest` meets its contract: bisection between a distance that is accepted and one from which on none is. Assumes nothing.
use mathlib.Core.Path.{sym, ◌∙◌}
use native.Mathlib.Omega.{arith}
use Rattle.guidance.proofs.laws.Domain.{heated_placed}
use Rattle.bisection.proofs.Middle.{inside}
use Rattle.bisection.proofs.Bisection.{lowered, closed}
use Rattle.receptor.specs.laws.Moved.{never_beyond, beyond_farther}
use Rattle.receptor.specs.laws.Reach.{Within, Beyond, last_is}
use Rattle.receptor.proofs.farthest.Goals as goal

pub loop-high-init : goal.loop-high-init
loop-high-init c =
    let h = c.args.here.now in
    (record { order = omega arith; low = never_beyond h.case h.air (heated_placed h.placed) h.placed.pressure; high = λ e f g. absurd (omega arith) }, omega arith, omega arith)

pub loop-high-preserved-then-is_beyond : goal.loop-high-preserved-then-is_beyond
loop-high-preserved-then-is_beyond c =
    let h = c.args.here.now in
    let t = c.loop-high-test.true in
    let e = c.at_distance-there.ensures in
    let found = rw (e.1, e.0) at (sym c.is_beyond.ensures ∙ c.if-is_beyond.true) in (
      lowered (Within h.air h.case) (Beyond h.air h.case 1000000) c.loop-high.invariant.0 t (λ e f g. beyond_farther h.case h.air f found),
      c.loop-high.invariant.1,
      omega (arith, inside _ _ t, c.loop-high.invariant.2),
    )

pub returns : goal.returns
returns c =
    let h = c.args.here.now in
    last_is h.air h.case 1000000 c.loop-high.low (omega (arith, c.loop-high.invariant.0.order, c.loop-high.invariant.2)) c.loop-high.invariant.0.low
    (closed (Within h.air h.case) (Beyond h.air h.case 1000000) c.loop-high.invariant.0 c.loop-high-test.false)
