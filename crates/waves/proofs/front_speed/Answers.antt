-- `waves::front_speed` meets its contract. Assumes nothing.
use borrow.Author.Tests.{lt-ltb, le-ltb}
use Rattle.guidance.specs.Waves.{front_speed_of}
use Rattle.waves.proofs.front_speed.Goals as goal

pub returns-then-range-lt5 : goal.returns-then-range-lt5
unfolding front_speed_of
returns-then-range-lt5 c =
    rw (lt-ltb c.args.range 5 c.if-range-lt5.true) c.range_end.ensures

pub returns-else-range-lt5 : goal.returns-else-range-lt5
unfolding front_speed_of
returns-else-range-lt5 c =
    rw (le-ltb c.args.range 5 c.if-range-lt5.false) c.slow_front.ensures
