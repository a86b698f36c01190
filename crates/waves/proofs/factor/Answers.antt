-- `waves::factor` meets its contract. Assumes nothing.
-- the whole number m, which is the one that the test picks
use mathlib.Core.Bool.{cond}
use Prim.Native.Nat.{ℕ, ◌≤◌}
use mathlib.Core.Path.{◌≡◌, refl, subst}
use native.Mathlib.Omega.{arith}
use lib.Dec.{eqb}
use borrow.Author.Tests.{ne_eqb}
use Rattle.exact.specs.Fraction.{whole, of_ratio}
use Rattle.span.specs.declared.Span.{Span}
use Rattle.span.specs.Spans.{Constant}
use Rattle.span.specs.Enclosing.{Encloses, constant_encloses}
use Rattle.guidance.specs.Waves.{number}
use Rattle.waves.specs.EndBounds.{constant_lower, lower_coarser}
use Rattle.waves.specs.Coefficients.{factor_43, factor_26}
use Rattle.waves.specs.Fronts.{Factor}
use Rattle.waves.proofs.factor.Goals as goal

factor-is : (range : ℕ) (m k : ℕ) {s : Span} → Constant (of_ratio (whole m)) k s → m ≡ cond (eqb range 5) 43 26 → 998 ≤ k → m ≤ 43 → Factor range s
unfolding whole
factor-is range m k {s} c h l u =
    record {
      normal = c.normal;
      encloses = λ n. subst (λ (i : ℕ). Encloses s (number (whole i)) n) h (constant_encloses c n);
      width = c.width;
      least = omega (arith, c.exponent);
      most = lower_coarser (constant_lower (whole m) c) (omega arith) (omega arith);
    }

pub returns-in-5 : goal.returns-in-5
returns-in-5 c =
    factor-is _ 43 999 factor_43 (rw c.in-5.is refl) (omega arith) (omega arith)

pub returns-in_default : goal.returns-in_default
returns-in_default c =
    factor-is _ 26 998 factor_26 (rw (ne_eqb c.args.range 5 λ h. omega (arith, c.in_default)) refl) (omega arith) (omega arith)
