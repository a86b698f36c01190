-- `guidance::joules_of` meets its contract. Assumes nothing.
use mathlib.Core.Path.{◌≡◌}
use lib.Dec.{eqb, ltb}
use Rattle.std.specs.Prelude.{cond}
use native.Mathlib.Omega.{arith}
use Rattle.std.proofs.lemmas.Bool.Decides.{nat_tests}
use Rattle.guidance.proofs.laws.Limits.{factors_most}
use Rattle.guidance.proofs.joules_of.Goals as goal

pub overflow_mul-result-3 : goal.overflow_mul-result-3
overflow_mul-result-3 c =
    let ground : c.if-c-eq1.ground ≡ cond (eqb c.args.c.placement 1) 2 1 = grind (arith, nat_tests) in
    let lean : c.if-c.lean ≡ cond (ltb c.args.c.stoichiometric c.args.c.mean) c.args.c.stoichiometric 1 = grind (arith, nat_tests) in
    rw (c.heat_of.ensures, ground, lean) (omega (arith, factors_most _ c.requires))
