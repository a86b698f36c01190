-- `guidance::settings::Setting::is_beyond` meets its contract. Assumes nothing.
use mathlib.Core.Path.{sym, ◌∙◌}
use native.Mathlib.Omega.{arith}
use lib.Dec.{ltb}
use Rattle.exact.specs.Fraction.{whole}
use Rattle.guidance.specs.Distances.{cube24}
use Rattle.guidance.proofs.laws.Comparisons.{farther_value, farther_words}
use Rattle.guidance.proofs.settings.Setting.is_beyond.Goals as goal

pub returns : goal.returns
unfolding cube24 whole
returns c =
    let s = c.args.self.now in
    (λ i. ltb (c.scaled.ensures i) (c.cubed.ensures i))
    ∙ sym (farther_words s.case s.cloud s.placed.cloud _ s.air)
    ∙ farther_value _ cube24 s.air s.case (omega arith)
