-- `ring::search` meets its contract: 10, 11, or the ring. Assumes nothing.
-- what is known where the threshold is reached at 1 cm, and that is not the farthest distance
use mathlib.Core.Path.{◌≡◌, refl, sym, ◌∙◌, subst}
use native.Mathlib.Omega.{arith}
use Rattle.guidance.proofs.laws.Domain.{heated_placed}
use Rattle.receptor.specs.Receptor.{farthest}
use Rattle.ring.specs.declared.Side.TheVariants.{Lower}
use Rattle.ring.specs.Searching.{Reaches, Standing}
use Rattle.ring.specs.laws.Standing.{standing_first, standing_last}
use Rattle.ring.specs.laws.Sides.{reached_at, below_at, upper_reaches}
use Rattle.ring.specs.laws.Choice.{weak, strong}
use Rattle.ring.proofs.search.Goals as goal

pub pressure_at-first-requires : goal.pressure_at-first-requires
pressure_at-first-requires c =
    let p = c.args.here.now.placed in standing_first (heated_placed p) p.pressure

pub returns-then-first-threshold : goal.returns-then-first-threshold
returns-then-first-threshold c =
    weak (below_at c.pressure_at-first.ensures refl c.if-first-threshold.true)

-- where the farthest distance is 1 cm
pub returns-then-far-eq1 : goal.returns-then-far-eq1
returns-then-far-eq1 c =
    let r = reached_at c.pressure_at-first.ensures refl c.if-first-threshold.false in
    let e : farthest _ _ ≡ 1 = sym c.farthest-far.ensures ∙ c.if-far-eq1.true in
    strong r (rw e (upper_reaches r))

pub pressure_at-last-requires : goal.pressure_at-last-requires
pressure_at-last-requires c =
    let is_far : c.farthest-far.result ≡ farthest c.args.here.now.air c.args.here.now.case = c.farthest-far.ensures in
    let p = c.args.here.now.placed in
    let stands : Standing c.args.here.now.air c.args.here.now.case c.farthest-far.result = subst (Standing c.args.here.now.air c.args.here.now.case) (sym is_far) (standing_last (heated_placed p) p.pressure) in
    stands

pub ring_within-requires : goal.ring_within-requires
ring_within-requires c =
    let is_far : c.farthest-far.result ≡ farthest c.args.here.now.air c.args.here.now.case = c.farthest-far.ensures in
    let not_one : c.farthest-far.result ≡ 1 → ⊥ = c.if-far-eq1.false in
    let first : Reaches Lower c.args.here.now.air c.args.here.now.case c.args.threshold 1 = reached_at c.pressure_at-first.ensures refl c.if-first-threshold.false in
    let p = c.args.here.now.placed in
    let stands : Standing c.args.here.now.air c.args.here.now.case c.farthest-far.result = subst (Standing c.args.here.now.air c.args.here.now.case) (sym is_far) (standing_last (heated_placed p) p.pressure) in
    record {
      standing = stands;
      is_farthest = is_far;
      more = omega (arith, stands.permitted.least, not_one);
      first = first;
      last = below_at c.pressure_at-last.ensures refl c.if-last-threshold.true;
    }

-- at a farther one
pub returns-else-last-threshold : goal.returns-else-last-threshold
returns-else-last-threshold c =
    let is_far : c.farthest-far.result ≡ farthest c.args.here.now.air c.args.here.now.case = c.farthest-far.ensures in
    let first : Reaches Lower c.args.here.now.air c.args.here.now.case c.args.threshold 1 = reached_at c.pressure_at-first.ensures refl c.if-first-threshold.false in
    strong first (rw (sym is_far) (reached_at c.pressure_at-last.ensures refl c.if-last-threshold.false))
