-- `probits::Exposure::probit4` meets its contract. Assumes nothing.
use Rattle.probits.proofs.Counting.{pressure_scalable, rising_summands, rising_counted, rising_probit}
use Rattle.probits.proofs.Exposure.probit4.Goals as goal

pub scaled-requires-clause-factors : goal.scaled-requires-clause-factors
scaled-requires-clause-factors c =
    pressure_scalable c.args.self.now.loaded.pressure c.ln-l.ensures

pub add-requires : goal.add-requires
add-requires c =
    rising_summands c.args.self.now.loaded.pressure c.ln-l.ensures c.scaled.ensures

pub thousandths-requires : goal.thousandths-requires
thousandths-requires c =
    rising_counted c.args.self.now.loaded.pressure c.ln-l.ensures c.scaled.ensures c.add.ensures

pub returns : goal.returns
returns c =
    rising_probit c.args.self.now.loaded.pressure c.ln-l.ensures c.scaled.ensures c.add.ensures c.thousandths.ensures
