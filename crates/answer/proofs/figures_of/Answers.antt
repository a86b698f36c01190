-- `answer::figures_of` meets its contract: all in the case's own air. Assumes nothing.
use Rattle.answer.proofs.Numbers.{figures}
use Rattle.answer.proofs.figures_of.Goals as goal

pub returns : goal.returns
returns c =
    let at = c.in_own_air-at in
    let cloud = rw at.ensures.0 at at.result.placed.cloud in
    let wave = rw (c.of-x.ensures, at.ensures.1, at.ensures.0) at c.wave-w.ensures in
    let probits = rw at.ensures.1 at c.probits_of-probits.ensures in
    figures c.requires cloud wave c.ends-pressure.ensures c.ends-impulse.ensures probits
