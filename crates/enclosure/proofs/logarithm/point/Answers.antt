-- `enclosure::logarithm::point` meets its contract. Assumes nothing.
use Rattle.std.proofs.Common.{arith}
use Rattle.enclosure.proofs.LnPoint.{side_most, sides_fit, sides_small, both_sides}
use Rattle.enclosure.proofs.logarithm.point.Goals as goal

pub overflow_add-b : goal.overflow_add-b
overflow_add-b c =
    omega (arith, side_most c.side-b.ensures, c.requires.most)

pub octaves-x-requires : goal.octaves-x-requires
octaves-x-requires c =
    sides_fit c.requires c.octave_of-k.ensures c.side-a.ensures c.side-b.ensures

pub overflow_sub-x : goal.overflow_sub-x
overflow_sub-x c =
    sides_small c.requires c.octave_of-k.ensures c.side-a.ensures c.side-b.ensures c.octaves-x.ensures

pub returns : goal.returns
returns c =
    both_sides c.requires c.octave_of-k.ensures c.side-a.ensures
    c.side-b.ensures c.octaves-x.ensures c.side.ensures
