-- `probits::ratio_power` meets its contract. Assumes nothing.
use Rattle.probits.proofs.Powers.{quotient_loggable, quotient_scalable, power_exponent, ratio_power}
use Rattle.probits.proofs.ratio_power.Goals as goal

pub ln-l-requires : goal.ln-l-requires
ln-l-requires c =
    quotient_loggable c.requires c.quo.ensures

pub scaled-requires-clause-factors : goal.scaled-requires-clause-factors
scaled-requires-clause-factors c =
    quotient_scalable c.requires c.quo.ensures c.ln-l.ensures

pub expo-requires : goal.expo-requires
expo-requires c =
    power_exponent c.requires c.quo.ensures c.ln-l.ensures c.scaled.ensures

pub returns : goal.returns
returns c =
    ratio_power c.requires c.quo.ensures c.ln-l.ensures c.scaled.ensures c.expo.ensures
