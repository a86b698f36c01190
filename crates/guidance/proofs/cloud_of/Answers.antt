-- `guidance::cloud_of` meets its contract. Assumes nothing.
use Prim.Native.Nat.{ℕ}
use mathlib.Core.Path.{◌≡◌, ap, ◌∙◌}
use mathlib.Core.Bool.{Bool, ◌&&◌}
use lib.Dec.{eqb, ltb}
use native.Mathlib.Omega.{arith}
use Rattle.std.specs.Prelude.{cond}
use Rattle.std.proofs.lemmas.Bool.Decides.{nat_tests}
use Rattle.guidance.specs.declared.Case.{Case}
use Rattle.guidance.specs.Clouds.{range_of}
use Rattle.guidance.specs.CloudWords.{Heated, CloudOf, joules_of, parts_of}
use Rattle.guidance.proofs.laws.Energies.{cloud_is}
use Rattle.guidance.proofs.cloud_of.Goals as goal

made : (x : Case) → Heated x → {r j p : ℕ} {a : Bool} → r ≡ range_of x → j ≡ joules_of x
    → p ≡ cond (ltb x.stoichiometric x.mean) x.mean 1 → a ≡ (eqb x.state 1 && ltb 1 r)
    → CloudOf x (record { range = r; joules = j; parts = p; aerosol = a })
unfolding parts_of
made x h r j p a =
    cloud_is x h _ r (a ∙ ap (λ n. eqb x.state 1 && ltb 1 n) r) j p

pub returns-then-c-eq1 : goal.returns-then-c-eq1
returns-then-c-eq1 c =
    made _ c.requires c.range_of-range.ensures c.joules_of-joules.ensures (grind (arith, nat_tests)) (grind (arith, nat_tests))

pub returns-else-c-eq1 : goal.returns-else-c-eq1
returns-else-c-eq1 c =
    made _ c.requires c.range_of-range.ensures c.joules_of-joules.ensures (grind (arith, nat_tests)) (grind (arith, nat_tests))
