-- `span::sub` meets its contract. Assumes nothing.
use Rattle.std.proofs.Common.{arith}
use Rattle.span.proofs.Differences.{lower_exponent, upper_taken, lower_taken, taken_ordered, difference_roundable, difference_rounded}
use Rattle.span.proofs.sub.Goals as goal

pub overflow_sub-d : goal.overflow_sub-d
overflow_sub-d c =
    lower_exponent _ _ c.requires

pub overflow_sub-a : goal.overflow_sub-a
overflow_sub-a c =
    let g = c.requires in
    omega (arith, upper_taken _ _ g _ c.shr_up-up.ensures, lower_taken _ _ g _ c.shr_down-down.ensures)

pub overflow_sub-a-2 : goal.overflow_sub-a-2
overflow_sub-a-2 c =
    omega (arith, lower_taken _ _ c.requires _ c.shr_down-down.ensures)

pub norm-requires : goal.norm-requires
norm-requires c =
    let g = c.requires in
    let down = c.shr_down-down.ensures in
    let up = c.shr_up-up.ensures in
    let lower = lower_taken _ _ g _ down in
    difference_roundable _ _ _ _ g down up _ _
    (omega (arith, taken_ordered _ _ _ _ g down up, upper_taken _ _ g _ up, lower)) (omega (arith, lower))

pub returns : goal.returns
returns c =
    let g = c.requires in
    let down = c.shr_down-down.ensures in
    let up = c.shr_up-up.ensures in
    difference_rounded _ _ _ _ g down up _ _ _
    (omega (arith, upper_taken _ _ g _ up)) (omega (arith, lower_taken _ _ g _ down)) c.norm.ensures
