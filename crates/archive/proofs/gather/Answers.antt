-- `archive::gather` meets its contract: the frames of the places passed. Assumes nothing.
use Prim.Native.Nat.{◌+◌, ◌*◌, ◌-◌, ◌≤◌}
use native.Mathlib.Omega.{arith}
use lib.ListN.{length}
use Rattle.archive.proofs.Gathering.{put_hole, put_case, gather_first, gather_again, gather_last}
use Rattle.archive.proofs.gather.Goals as goal
use Rattle.archive.proofs.gather.Goals.{in-Some, in_default}

pub loop-place-init : goal.loop-place-init
loop-place-init c =
    gather_first _ _ c.requires

pub loop-place-preserved : goal.loop-place-preserved
loop-place-preserved c =
    let turn = c.loop-place.invariant in
    let inside = c.loop-place-test.true in
    let n = c.loop-place.n in
    let room : 24 * n + 24 ≤ length c.loop-place.frames = omega (arith, turn.room, turn.same, turn.within, inside) in
    elim c.match-place.branch [
      | in-Some w ↦ rw (w.frames-is, w.n-is)
          (gather_again turn inside _ _ _ w.in-Some.is (put_case _ n (24 * n + 24 - 24 * n) _ _ (omega arith) room w.write_long.ensures))
      | in_default w ↦ rw (w.frames-is, w.n-is) (gather_again turn inside _ _ _ w.in_default.is (put_hole n _))
    ]

pub returns : goal.returns
returns c =
    gather_last c.loop-place.invariant (omega (arith, c.loop-place-test.false))
