-- `waves::range_end` meets its contract. Assumes nothing.
-- a speed that is written out
use Prim.Native.Nat.{ℕ, ◌≤◌}
use native.Mathlib.Omega.{arith}
use borrow.Author.Tests.{ne_eqb}
use Rattle.exact.specs.Fraction.{whole}
use Rattle.span.specs.Constants.{Between, coefficient}
use Rattle.span.specs.Enclosing.{constant_encloses, wider}
use Rattle.guidance.specs.Waves.{number, range_end}
use Rattle.waves.specs.EndBounds.{constant_lower, lower_coarser}
use Rattle.waves.specs.Fronts.{Front}
use Rattle.waves.proofs.range_end.Goals as goal

given : (m k j : ℕ) {lo hi : ℕ} → Between (whole m) lo hi k j → 995 ≤ k → m ≤ 501 → Front (number (whole m)) (record { lo = lo; hi = hi; e = k })
unfolding whole
given m k j b l u =
    let c = coefficient (whole m) _ _ k j b in
    record {
      encloses = λ n h. constant_encloses c n;
      width = wider (omega arith) c.width;
      speed =
          record {
            normal = c.normal;
            narrow = wider (omega arith) c.width;
            least = omega (arith, c.exponent);
            most = lower_coarser (constant_lower (whole m) c) (omega arith) (omega arith);
          };
    }

pub returns-in-2 : goal.returns-in-2
unfolding range_end whole
returns-in-2 c =
    rw c.in-2.is (given 500 1002 22 (omega arith) (omega arith) (omega arith))

pub returns-in-3 : goal.returns-in-3
unfolding range_end whole
returns-in-3 c =
    rw c.in-3.is (given 300 1002 22 (omega arith) (omega arith) (omega arith))

pub returns-in_default : goal.returns-in_default
unfolding range_end whole
returns-in_default c =
    let r = c.args.range in
    rw (ne_eqb r 2 λ h. omega (arith, c.in_default), ne_eqb r 3 λ h. omega (arith, c.in_default))
    (given 200 1001 23 (omega arith) (omega arith) (omega arith))
