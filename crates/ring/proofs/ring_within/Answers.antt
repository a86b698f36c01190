-- `ring::ring_within` meets its contract: two bisections, and one choice of ends for what they found. Assumes nothing.
use mathlib.Core.Path.{subst}
use native.Mathlib.Omega.{arith}
use Rattle.ring.specs.declared.Side.TheVariants.{Upper}
use Rattle.ring.specs.Searching.{Below}
use Rattle.ring.specs.laws.Sides.{upper_reaches, lower_below}
use Rattle.ring.specs.laws.Choice.{ring}
use Rattle.ring.proofs.ring_within.Goals as goal

pub edge-inner-requires : goal.edge-inner-requires
edge-inner-requires c =
    let k = c.requires in
    record { standing = k.standing; least = omega arith; between = record { order = k.more; low = k.first; high = lower_below k.last } }

pub edge-outer-requires : goal.edge-outer-requires
edge-outer-requires c =
    let k = c.requires in
    let inner = c.edge-inner.ensures in
    record {
      standing = k.standing;
      least = inner.least;
      between = record { order = inner.most; low = upper_reaches inner.reaches; high = k.last };
    }

pub returns : goal.returns
returns c =
    let k = c.requires in
    let inner = c.edge-inner.ensures in
    let outer = c.edge-outer.ensures in
    ring inner.least outer.least (omega (arith, outer.most, k.is_farthest)) inner.reaches k.first outer.next
    (subst (Below Upper c.args.here.now.air c.args.here.now.case c.args.threshold) k.is_farthest k.last) inner.next outer.reaches
