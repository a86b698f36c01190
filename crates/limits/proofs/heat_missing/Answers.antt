-- `limits::heat_missing` meets its contract: no heat is a heat of 0. Assumes nothing.
use Prim.Native.Nat.{ℕ}
use mathlib.Core.Path.{ap, sym, ◌∙◌}
use lib.Dec.{eqb}
use Rattle.limits.specs.laws.Fields.{heat_missing_lem}
use Rattle.limits.proofs.heat_missing.Goals as goal

pub returns : goal.returns
returns c =
    ap (λ (n : ℕ). eqb n 0) c.heat_of.ensures ∙ sym (heat_missing_lem c.args.c)
