-- `probits::Exposure::lung_pressure` meets its contract. Assumes nothing.
use borrow.Author.Rules.{rules}
use Rattle.probits.specs.declared.Exposure.{Exposure}
use Rattle.probits.specs.Terms.{Lunged}
use Rattle.probits.proofs.Sums.{lung_divides, lung_summands, lung_divides_again, lung_of}
use Rattle.probits.proofs.Exposure.lung_pressure.Goals as goal

lunged : (e : Exposure) → Lunged e.pressure e.air
lunged e = record { pressure = e.loaded.pressure; within = e.resisting.within }

pub quo_whole-q-requires : goal.quo_whole-q-requires
quo_whole-q-requires c =
    record { above = search rules; divisible = λ b w. lung_divides (lunged c.args.self.now) w }

pub add-requires : goal.add-requires
add-requires c =
    let q = c.quo_whole-q.ensures in lung_summands (lunged c.args.self.now) q.whole q.quotient

pub quo-requires : goal.quo-requires
quo-requires c =
    let q = c.quo_whole-q.ensures in lung_divides_again (lunged c.args.self.now) q.whole q.quotient c.add.ensures

pub returns : goal.returns
returns c =
    let q = c.quo_whole-q.ensures in lung_of (lunged c.args.self.now) q.whole q.quotient c.add.ensures c.quo.ensures
