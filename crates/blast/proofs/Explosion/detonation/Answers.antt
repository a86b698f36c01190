-- `blast::Explosion::detonation` meets its contract. Assumes nothing.
use mathlib.Core.Path.{sym, ◌∙◌}
use Rattle.blast.proofs.Reduced.{seen}
use Rattle.blast.proofs.Detonations.{log_distance, heterogeneous_at, gas_at}
use Rattle.blast.proofs.Explosion.detonation.Goals as goal

pub log_distance-l-requires : goal.log_distance-l-requires
log_distance-l-requires c =
    log_distance (seen c.args.self.now) (sym c.is_near_field-near.ensures ∙ c.if-near.false)

pub returns-then-self-eq1 : goal.returns-then-self-eq1
returns-then-self-eq1 c =
    heterogeneous_at (seen c.args.self.now) (sym c.is_near_field-near.ensures ∙ c.if-near.false) c.if-self-eq1.true

pub returns-else-self-eq1 : goal.returns-else-self-eq1
returns-else-self-eq1 c =
    gas_at (seen c.args.self.now) (sym c.is_near_field-near.ensures ∙ c.if-near.false) c.if-self-eq1.false c.log_distance-l.ensures
