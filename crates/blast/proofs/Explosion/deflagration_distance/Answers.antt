-- `blast::Explosion::deflagration_distance` meets its contract. Assumes nothing.
use mathlib.Core.Path.{sym, ◌∙◌}
use native.Mathlib.Omega.{arith}
use Rattle.guidance.specs.Waves.{hundredths}
use Rattle.span.specs.Constants.{coefficient}
use Rattle.blast.proofs.Reduced.{seen}
use Rattle.blast.proofs.Deflagrations.{nearest_distance, true_distance}
use Rattle.blast.proofs.Explosion.deflagration_distance.Goals as goal

pub returns-then-under : goal.returns-then-under
returns-then-under c =
    nearest_distance (seen c.args.self.now) (coefficient (hundredths 34) _ _ 992 32 (omega arith)) (sym c.is_under_034-under.ensures ∙ c.if-under.true)

pub returns-else-under : goal.returns-else-under
returns-else-under c =
    true_distance (seen c.args.self.now) (sym c.is_under_034-under.ensures ∙ c.if-under.false)
