-- `ring::edge` meets its contract: bisection between a distance where the end reaches the threshold and one where it does not. Assumes nothing.
use native.Mathlib.Omega.{arith}
use Rattle.bisection.proofs.Middle.{inside}
use Rattle.bisection.proofs.Bisection.{raised, lowered, closed}
use Rattle.ring.specs.Searching.{Reaches, Below}
use Rattle.ring.specs.laws.Standing.{standing_nearer}
use Rattle.ring.specs.laws.Sides.{reached_at, below_at}
use Rattle.ring.proofs.edge.Goals as goal

pub pressure_at-e-requires : goal.pressure_at-e-requires
pressure_at-e-requires c =
    let i = inside c.loop-high.low c.loop-high.high c.loop-high-test.true in
    standing_nearer c.requires.standing (omega (arith, c.requires.least, c.loop-high.invariant.1, i.above)) (omega (arith, c.loop-high.invariant.2, i.below))

pub loop-high-preserved-then-end_of-threshold : goal.loop-high-preserved-then-end_of-threshold
loop-high-preserved-then-end_of-threshold c =
    let a = c.args in
    let h = a.here.now in
    let t = c.loop-high-test.true in
    let found = below_at c.pressure_at-e.ensures c.end_of.ensures c.if-end_of-threshold.true in (
      lowered (Reaches a.side h.air h.case a.threshold) (Below a.side h.air h.case a.threshold) c.loop-high.invariant.0 t found,
      c.loop-high.invariant.1,
      omega (arith, inside _ _ t, c.loop-high.invariant.2),
    )

pub loop-high-preserved : goal.loop-high-preserved
loop-high-preserved c =
    let a = c.args in
    let h = a.here.now in
    let t = c.loop-high-test.true in
    let found = reached_at c.pressure_at-e.ensures c.end_of.ensures c.if-end_of-threshold.false in (
      raised (Reaches a.side h.air h.case a.threshold) (Below a.side h.air h.case a.threshold) c.loop-high.invariant.0 t found,
      omega (arith, inside _ _ t, c.loop-high.invariant.1),
      c.loop-high.invariant.2,
    )

pub returns : goal.returns
returns c =
    let a = c.args in
    let h = a.here.now in
    record {
      least = c.loop-high.invariant.1;
      most = omega (arith, c.loop-high.invariant.0.order, c.loop-high.invariant.2);
      reaches = c.loop-high.invariant.0.low;
      next = closed (Reaches a.side h.air h.case a.threshold) (Below a.side h.air h.case a.threshold) c.loop-high.invariant.0 c.loop-high-test.false;
    }
