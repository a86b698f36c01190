-- `waves::falling_pressure` meets its contract. That 0.14/R² is at most seven tenths of 0.83/R, as ends, comes from the ends of R
-- themselves. Assumes nothing.
-- Y and X are the ends of R in units U, from 0.33 up
use Prim.Native.Nat.{ℕ, ◌+◌, ◌*◌, ◌^◌, ◌≤◌, ◌<◌}
use native.Mathlib.Nat.{mul-pos, mul-le-mul_right}
use native.Mathlib.Omega.{arith}
use lib.Pow.{pow_pos}
use Rattle.span.specs.declared.Span.{Span}
use Rattle.span.specs.Spans.{unit, Width, Product, Quotient, Subtractable, Difference}
use Rattle.span.specs.Enclosing.{constant_encloses, product_encloses, quotient_encloses, difference_encloses, wider, divisor}
use Rattle.guidance.specs.Waves.{hundredths, falling_pressure}
use Rattle.waves.specs.EndBounds.{lower_itself, upper_itself, lower_coarser, constant_lower, constant_upper, product_upper, quotient_lower, quotient_upper, difference_lower, exponent_most_of, share_of}
use Rattle.waves.specs.Coefficients.{falling_first, falling_second, falling_first_lem, falling_second_lem}
use Rattle.waves.specs.Detonation.{Distance}
use Rattle.waves.specs.Deflagration.{FallingPressure}
use Rattle.waves.proofs.Distances.{Window, window, squares, divides, square_divides}
use Rattle.waves.proofs.falling_pressure.Goals as goal

seven-tenths : (X Y U : ℕ) → Y ≤ X → 33 * U ≤ X * 100 → 10 * (14 * (U * U) * (100 * Y)) ≤ 7 * (83 * U * (100 * (X * X)))
seven-tenths X Y U o near = omega (arith, mul-le-mul_right (U * U) o, mul-le-mul_right (X * U) near)

module _ {r square first second : Span} (x : Distance 33 100 r) (p : Product r r square)
    (t₁ : Quotient falling_first r first) (t₂ : Quotient falling_second square second) where
  subtractable : Subtractable first second
  subtractable =
      let k = window x (omega arith) (omega arith) in
      let U = unit in
      let X = r.hi * 2 ^ r.e in
      let Y = r.lo * 2 ^ r.e in
      let pos : 0 < Y = mul-pos {m = r.lo} (omega (arith, divisor x.normal x.narrow (omega arith))) (pow_pos r.e) in
      let order : Y ≤ X = mul-le-mul_right (2 ^ r.e) x.normal.ordered in
      let xx : 0 < X * X = mul-pos {m = X} (omega arith) (omega arith) in
      let f = quotient_upper falling_first_lem.normal x.normal t₁ (constant_upper (hundredths 83) falling_first_lem) (lower_itself r) in
      let square-up = product_upper x.normal x.normal p (upper_itself r) (upper_itself r) in
      let s = quotient_lower falling_second_lem.normal p.normal t₂ (constant_lower (hundredths 14) falling_second_lem) square-up in
      record {
        left = t₁.normal;
        right = t₂.normal;
        share =
            share_of f s (mul-pos {m = 100 * Y} (omega arith) (omega arith)) (seven-tenths X Y U order x.near.above)
            (wider (omega arith) (t₁.width 1 _ falling_first_lem.width x.narrow))
            (wider (omega arith) (t₂.width 1 _ falling_second_lem.width (p.width _ _ x.narrow x.narrow)));
        least = omega (arith, t₁.least);
        most = omega (arith, t₁.most);
      }

  module _ {s : Span} (v : Difference first second s) where
    width : (D : ℕ) → Width r D → Width s (12 * D + 58)
    width D w =
        wider (omega arith) (v.width _ _ (t₁.width 1 D falling_first_lem.width w) (t₂.width 1 _ falling_second_lem.width (p.width D D w w)))

    result : FallingPressure r s
    unfolding falling_pressure
    result =
        let k = window x (omega arith) (omega arith) in
        let low =
        difference_lower t₁.normal t₂.normal v
        (quotient_lower falling_first_lem.normal x.normal t₁ (constant_lower (hundredths 83) falling_first_lem) x.near) in
        record {
          normal = v.normal;
          encloses = λ y n h.
              difference_encloses v (quotient_encloses t₁ (constant_encloses falling_first_lem n) h)
              (quotient_encloses t₂ (constant_encloses falling_second_lem n) (product_encloses p h h));
          width = λ D w. wider (omega arith) (width D w);
          lower = lower_coarser low (omega arith) (omega arith);
          least = omega (arith, t₁.least, v.least);
          most = exponent_most_of v.normal (wider (omega arith) (width _ x.narrow)) low (omega arith) 2 (omega arith);
        }

in_window : {r : Span} → Distance 33 100 r → Window r
in_window x = window x (omega arith) (omega arith)

pub mul-square-requires : goal.mul-square-requires
mul-square-requires c =
    squares (in_window c.requires)

pub quo-first-requires : goal.quo-first-requires
quo-first-requires c =
    divides (in_window c.requires) (omega arith) (omega arith) (omega arith)

pub quo-second-requires : goal.quo-second-requires
quo-second-requires c =
    square_divides (in_window c.requires) c.mul-square.ensures (omega arith) (omega arith) (omega arith)

pub sub-requires : goal.sub-requires
sub-requires c =
    subtractable c.requires c.mul-square.ensures c.quo-first.ensures c.quo-second.ensures

pub returns : goal.returns
returns c =
    result c.requires c.mul-square.ensures c.quo-first.ensures c.quo-second.ensures c.sub.ensures
