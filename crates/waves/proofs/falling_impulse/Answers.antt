-- `waves::falling_impulse` meets its contract. That 0.0025/R³ is at most seven tenths of 0.06/R, as ends, comes from the ends of R
-- themselves. Assumes nothing.
-- Y and X are the ends of R in units U, from 0.33 up
use Prim.Native.Nat.{ℕ, ◌+◌, ◌*◌, ◌^◌, ◌≤◌, ◌<◌}
use native.Mathlib.Nat.{mul-pos, mul-le-mul_right}
use native.Mathlib.Omega.{arith}
use lib.Pow.{pow_pos}
use Rattle.span.specs.declared.Span.{Span}
use Rattle.span.specs.Spans.{unit, Width, Product, Quotient, Sum, Subtractable, Difference}
use Rattle.span.specs.Enclosing.{constant_encloses, product_encloses, quotient_encloses, sum_encloses, difference_encloses, wider, divisor}
use Rattle.guidance.specs.Waves.{hundredths, ten_thousandths, falling_impulse}
use Rattle.waves.specs.EndBounds.{lower_itself, upper_itself, lower_coarser, constant_lower, constant_upper, product_upper, quotient_lower, quotient_upper, sum_lower, sum_upper, difference_lower, exponent_most_of, share_of}
use Rattle.waves.specs.Coefficients.{push_first, push_second, push_third, push_first_lem, push_second_lem, push_third_lem}
use Rattle.waves.specs.Detonation.{Distance}
use Rattle.waves.specs.Deflagration.{FallingImpulse}
use Rattle.waves.proofs.Distances.{Window, window, squares, cubes, divides, square_divides, cube_divides}
use Rattle.waves.proofs.falling_impulse.Goals as goal

seven-tenths : (X Y U : ℕ) → Y ≤ X → 33 * U ≤ X * 100 → 10 * (25 * (U * U * U) * (100 * Y)) ≤ 7 * (6 * U * (10000 * (X * X * X)))
seven-tenths X Y U o near =
    omega (arith, mul-le-mul_right (U * U * U) o, mul-le-mul_right (X * U * U) near, mul-le-mul_right (X * X * U) near)

module _ {r square cube first second third : Span} (x : Distance 33 100 r) (p : Product r r square) (q : Product square r cube)
    (t₁ : Quotient push_first r first) (t₂ : Quotient push_second square second) (t₃ : Quotient push_third cube third) where
  module _ {two : Span} (u : Sum first second two) where
    two-width : (D : ℕ) → Width r D → Width two (2 * D + 11)
    two-width D w =
        wider (omega arith)
        (u.width (2 * D + 7) (wider (omega arith) (t₁.width 1 D push_first_lem.width w)) (wider (omega arith) (t₂.width 1 _ push_second_lem.width (p.width D D w w))))

    third-width : (D : ℕ) → Width r D → Width third (3 * D + 9)
    third-width D w = wider (omega arith) (t₃.width 1 _ push_third_lem.width (q.width _ D (p.width D D w w) w))

    subtractable : Subtractable two third
    subtractable =
        let k = window x (omega arith) (omega arith) in
        let U = unit in
        let X = r.hi * 2 ^ r.e in
        let Y = r.lo * 2 ^ r.e in
        let pos : 0 < Y = mul-pos {m = r.lo} (omega (arith, divisor x.normal x.narrow (omega arith))) (pow_pos r.e) in
        let order : Y ≤ X = mul-le-mul_right (2 ^ r.e) x.normal.ordered in
        let cubed : 0 < X * X * X = mul-pos {m = X * X} (mul-pos {m = X} (omega arith) (omega arith)) (omega arith) in
        let f =
        sum_upper t₁.normal t₂.normal u
        (quotient_upper push_first_lem.normal x.normal t₁ (constant_upper (hundredths 6) push_first_lem) (lower_itself r)) in
        let square-up = product_upper x.normal x.normal p (upper_itself r) (upper_itself r) in
        let cube-up = product_upper p.normal x.normal q square-up (upper_itself r) in
        let s = quotient_lower push_third_lem.normal q.normal t₃ (constant_lower (ten_thousandths 25) push_third_lem) cube-up in
        record {
          left = u.normal;
          right = t₃.normal;
          share =
              share_of f s (mul-pos {m = 100 * Y} (omega arith) (omega arith)) (seven-tenths X Y U order x.near.above)
              (wider (omega arith) (two-width _ x.narrow)) (wider (omega arith) (third-width _ x.narrow));
          least = omega (arith, t₁.least, u.least_left);
          most = omega (arith, p.least, t₁.most, t₂.most, u.most);
        }

    module _ {s : Span} (v : Difference two third s) where
      width : (D : ℕ) → Width r D → Width s (20 * D + 90)
      width D w = wider (omega arith) (v.width _ _ (two-width D w) (third-width D w))

      result : FallingImpulse r s
      unfolding falling_impulse
      result =
          let k = window x (omega arith) (omega arith) in
          let square-up = product_upper x.normal x.normal p x.near x.near in
          let low =
          difference_lower u.normal t₃.normal v
          (sum_lower t₁.normal t₂.normal u
          (quotient_lower push_first_lem.normal x.normal t₁ (constant_lower (hundredths 6) push_first_lem) x.near)
          (quotient_lower push_second_lem.normal p.normal t₂ (constant_lower (hundredths 1) push_second_lem) square-up)) in
          record {
            normal = v.normal;
            encloses = λ y n h.
                let h² = product_encloses p h h in
                let h³ = product_encloses q h² h in
                difference_encloses v
                (sum_encloses u (quotient_encloses t₁ (constant_encloses push_first_lem n) h) (quotient_encloses t₂ (constant_encloses push_second_lem n) h²))
                (quotient_encloses t₃ (constant_encloses push_third_lem n) h³);
            width = λ D w. wider (omega arith) (width D w);
            lower = lower_coarser low (omega arith) (omega arith);
            least = omega (arith, t₁.least, u.least_left, v.least);
            most = exponent_most_of v.normal (wider (omega arith) (width _ x.narrow)) low (omega arith) 0 (omega arith);
          }

in_window : {r : Span} → Distance 33 100 r → Window r
in_window x = window x (omega arith) (omega arith)

pub returns : goal.returns
returns c =
    result c.requires c.mul-square.ensures c.mul-cube.ensures
    c.quo-first.ensures c.quo-second.ensures c.quo-third.ensures
    c.add-two.ensures c.sub.ensures

pub mul-square-requires : goal.mul-square-requires
mul-square-requires c = squares (in_window c.requires)

pub mul-cube-requires : goal.mul-cube-requires
mul-cube-requires c = cubes (in_window c.requires) c.mul-square.ensures

pub quo-first-requires : goal.quo-first-requires
quo-first-requires c = divides (in_window c.requires) (omega arith) (omega arith) (omega arith)

pub quo-second-requires : goal.quo-second-requires
quo-second-requires c = square_divides (in_window c.requires) c.mul-square.ensures (omega arith) (omega arith) (omega arith)

pub quo-third-requires : goal.quo-third-requires
quo-third-requires c = cube_divides (in_window c.requires) c.mul-square.ensures c.mul-cube.ensures (omega arith) (omega arith) (omega arith)

pub sub-requires : goal.sub-requires
sub-requires c = subtractable c.requires c.mul-square.ensures c.mul-cube.ensures c.quo-first.ensures c.quo-second.ensures c.quo-third.ensures c.add-two.ensures
