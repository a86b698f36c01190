-- What the verdict accepts is accepted in its own air.
use Rattle.std.proofs.Common.{sym, ◌∙◌}
use Rattle.frame.specs.laws.Verdicts.{frame_accepted}
use Rattle.linked.proofs.figure_alone.Goals as goal

pub ends_of-e-requires : goal.ends_of-e-requires
ends_of-e-requires c =
    (frame_accepted c.args.frame.now _ _ (sym c.decide_frame.ensures ∙ c.in-Ok.is)).taken.accepted
