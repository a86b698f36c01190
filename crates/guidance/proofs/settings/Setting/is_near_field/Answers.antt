-- `guidance::settings::Setting::is_near_field` meets its contract. Assumes nothing.
use mathlib.Core.Path.{◌≡◌, ◌∙◌, ap}
use native.Mathlib.Omega.{arith}
use lib.Dec.{eqb}
use Rattle.std.specs.Prelude.{cond}
use Rattle.std.proofs.lemmas.Bool.Decides.{nat_tests}
use Rattle.guidance.specs.Distances.{nearer, cube02, cube025}
use Rattle.guidance.specs.CloudWords.{millionths}
use Rattle.guidance.proofs.laws.Comparisons.{near_field_is}
use Rattle.guidance.proofs.settings.Setting.is_near_field.Goals as goal

pub returns : goal.returns
unfolding cube02 cube025
returns c =
    let s = c.args.self.now in
    let t : c.if-self-eq1.t ≡ cond (eqb s.case.state 1) 15625 8000 = grind (arith, nat_tests) in
    c.is_nearer.ensures
    ∙ ap (λ t. nearer (millionths t) s.air s.case) t
    ∙ near_field_is _ _ s.air s.case (omega arith) (omega arith)
