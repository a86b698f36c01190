-- `rules::rules_by_figures` meets its contract. Assumes nothing.
use Rattle.rules.specs.laws.Deciding.{pressure_gave, impulse_gave}
use Rattle.rules.proofs.rules_by_figures.Goals as goal

pub returns : goal.returns
returns c =
    let h = c.requires in
    let under = c.is_under_034-under.ensures in
    let slow = c.figures-figures.ensures.deflagration in
    let fast = c.figures-figures.ensures.detonation in
    record {
      pressure = pressure_gave _ _ under h.near_is h.burns _ slow.pressure fast.pressure c.smaller_of-pressure.ensures;
      impulse = impulse_gave _ _ under h.near_is h.burns _ slow.impulse fast.impulse c.smaller_of-impulse.ensures;
    }
