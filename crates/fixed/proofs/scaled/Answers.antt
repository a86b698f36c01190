-- `fixed::scaled` meets its contract. Assumes nothing.
use Rattle.std.proofs.Common.{arith}
use Rattle.fixed.proofs.Scaling as scaling
use Rattle.fixed.proofs.scaled.Goals as goal

pub overflow_sub-result : goal.overflow_sub-result
overflow_sub-result g c =
    (scaling.last c.requires.factors c.from-p.ensures c.from-d.ensures (omega (arith, g.D.fits)) c.div_euclid.ensures c.div_euclid-2.ensures).fits

pub returns : goal.returns
returns g c =
    scaling.returns c.requires.factors c.from-p.ensures c.from-d.ensures (omega (arith, g.D.fits)) c.div_euclid.ensures c.div_euclid-2.ensures c.requires.divisor
