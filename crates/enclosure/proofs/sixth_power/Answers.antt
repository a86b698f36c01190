-- `enclosure::sixth_power` meets its contract. Assumes nothing.
use Rattle.enclosure.proofs.Sixths.{scalable, exponent, sixth_power}
use Rattle.enclosure.proofs.sixth_power.Goals as goal

pub scaled-requires-clause-factors : goal.scaled-requires-clause-factors
scaled-requires-clause-factors c =
    scalable c.requires c.ln.ensures

pub expo-requires : goal.expo-requires
expo-requires c =
    exponent c.requires c.ln.ensures c.scaled.ensures

pub returns : goal.returns
returns c =
    sixth_power c.requires c.ln.ensures c.scaled.ensures c.expo.ensures
