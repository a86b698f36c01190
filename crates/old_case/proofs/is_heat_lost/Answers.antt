-- `old_case::is_heat_lost` meets its contract. Assumes nothing.
use mathlib.Core.Path.{◌≡◌, sym, ap, ◌∙◌, subst}
use mathlib.Core.Bool.{true, false}
use Prim.Native.Nat.{ℕ}
use lib.Dec.{eqb}
use lib.Ieee.{Float, lt}
use Rattle.doubles.specs.Doubles.{whole}
use Rattle.doubles.specs.laws.Values.{zero_bits}
use Rattle.old_case.specs.Cases.{lost_heat}
use Rattle.old_case.specs.laws.Usable.{usable}
use Rattle.old_case.proofs.is_heat_lost.Goals as goal

pub whole-requires : goal.whole-requires
whole-requires c =
    (usable c.args.o c.requires).heat

pub returns-then-o : goal.returns-then-o
unfolding lost_heat
returns-then-o c =
    let x = c.args.o.heat in
    let e : lt (whole 0) x ≡ true = subst (λ (z : Float). lt z x ≡ true) zero_bits c.if-o.true in
    ap (λ (n : ℕ). eqb n 0) c.whole.ensures ∙ simp e

pub returns-else-o : goal.returns-else-o
unfolding lost_heat
returns-else-o c =
    let x = c.args.o.heat in
    let e : lt (whole 0) x ≡ false = subst (λ (z : Float). lt z x ≡ false) zero_bits c.if-o.false in
    subst (λ (z : Float). lt z x ≡ false) (sym zero_bits) e ∙ simp e
