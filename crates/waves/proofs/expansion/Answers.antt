-- `waves::expansion` meets its contract: by the state, a constant that holds its number. Assumes nothing.
use Rattle.std.proofs.Common.{◌≡◌, refl, ℕ, sym, subst, arith}
use borrow.Author.Tests.{ne_eqb}
use Rattle.exact.specs.Fraction.{Frac}
use Rattle.exact.specs.Formula.{Formula, const}
use Rattle.span.specs.declared.Span.{Span}
use Rattle.span.specs.Spans.{Constant}
use Rattle.span.specs.Enclosing.{Encloses, constant_encloses}
use Rattle.waves.specs.Coefficients.{gas_expansion_lem, aerosol_expansion_lem}
use Rattle.waves.specs.Deflagration.{expansion_of, Expansion}
use Rattle.waves.proofs.expansion.Goals as goal

state-is : {state : ℕ} {c : Frac} {g : Span} → Constant c 993 g → expansion_of state ≡ const c → Expansion state g
state-is {g = g} k h =
    record {
      normal = k.normal;
      encloses = λ n. subst (λ (x : Formula). Encloses g x n) (sym h) (constant_encloses k n);
      width = k.width;
      exponent = k.exponent;
    }

pub returns-in-1 : goal.returns-in-1
unfolding expansion_of
returns-in-1 c =
    state-is aerosol_expansion_lem (rw c.in-1.is refl)

pub returns-in_default : goal.returns-in_default
unfolding expansion_of
returns-in_default c =
    state-is gas_expansion_lem (rw (ne_eqb c.args.state 1 λ h. omega (arith, c.in_default)) refl)
