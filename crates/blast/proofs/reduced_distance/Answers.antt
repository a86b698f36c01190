-- `blast::reduced_distance` meets its contract. Assumes nothing.
use native.Mathlib.Omega.{arith}
use Rattle.blast.proofs.Reduced.{ready, share_divisible, share_rootable, distance_divisible, distance_result}
use Rattle.blast.proofs.reduced_distance.Goals as goal

pub quo_whole-share-requires : goal.quo_whole-share-requires
quo_whole-share-requires c =
    let h = ready c.args.at.now c.requires in
    record { above = omega (arith, h.pressure.least); divisible = λ b w. share_divisible h c.energy-joules.ensures w }

pub cube_root-root-requires : goal.cube_root-root-requires
cube_root-root-requires c =
    let q = c.quo_whole-share.ensures in
    share_rootable (ready c.args.at.now c.requires) c.energy-joules.ensures q.whole q.quotient

pub quo-requires : goal.quo-requires
quo-requires c =
    let q = c.quo_whole-share.ensures in
    distance_divisible (ready c.args.at.now c.requires) c.energy-joules.ensures q.whole q.quotient c.cube_root-root.ensures c.fraction-metres.ensures

pub returns : goal.returns
returns c =
    let q = c.quo_whole-share.ensures in
    distance_result (ready c.args.at.now c.requires) c.energy-joules.ensures q.whole q.quotient c.cube_root-root.ensures c.fraction-metres.ensures c.quo.ensures
