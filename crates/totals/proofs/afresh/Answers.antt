-- `totals::afresh` meets its contract: the totals of the places passed. Assumes nothing.
use mathlib.Core.Path.{◌∙◌}
use native.Mathlib.Omega.{arith}
use Prim.Native.Nat.{◌<◌}
use Rattle.totals.proofs.Scans.{scan_cases, scan_again, scan_last}
use Rattle.totals.proofs.afresh.Goals as goal
use Rattle.totals.proofs.afresh.Goals.{in-Some, in_default}

pub with_end-totals-requires : goal.with_end-totals-requires
with_end-totals-requires c =
    scan_cases c.loop-i.invariant (omega (arith, c.loop-i-test.true))

pub loop-i-preserved : goal.loop-i-preserved
loop-i-preserved c =
    let inside : c.loop-i.i < 64 = omega (arith, c.loop-i-test.true) in
    elim c.match-place.branch [
      | in-Some w ↦ scan_again c.loop-i.invariant inside _ _ w.in-Some.is (w.totals-is ∙ w.with_end-totals.ensures)
      | in_default w ↦ scan_again c.loop-i.invariant inside _ _ w.in_default.is w.totals-is
    ]

pub returns : goal.returns
returns c =
    scan_last c.loop-i.invariant (omega (arith, c.loop-i-test.false))
