-- `waves::aerosol_pressure` meets its contract. The law stands over plain values: each hypothesis is what one call promises, its
-- terms have the shape of the formula, and the needs only hand the promises over. Assumes nothing.
use Prim.Native.Nat.{ℕ, ◌+◌, ◌*◌}
use native.Mathlib.Omega.{arith}
use Rattle.span.specs.declared.Span.{Span}
use Rattle.span.specs.Spans.{Width, Product, Quotient, Summands, Sum}
use Rattle.span.specs.Enclosing.{constant_encloses, product_encloses, quotient_encloses, sum_encloses, wider}
use Rattle.guidance.specs.Waves.{thousandths, aerosol_pressure}
use Rattle.waves.specs.EndBounds.{product_upper, quotient_lower, sum_lower, exponent_most_of, constant_lower}
use Rattle.waves.specs.Coefficients.{aerosol_first, aerosol_second, aerosol_third, aerosol_first_lem, aerosol_second_lem, aerosol_third_lem}
use Rattle.waves.specs.Detonation.{Distance, AerosolPressure}
use Rattle.waves.proofs.Distances.{Window, window, squares, cubes, divides, square_divides, cube_divides}
use Rattle.waves.proofs.aerosol_pressure.Goals as goal

module _ {r square cube first second third : Span} (x : Distance 19 100 r) (p : Product r r square) (q : Product square r cube)
    (t₁ : Quotient aerosol_first r first) (t₂ : Quotient aerosol_second square second) (t₃ : Quotient aerosol_third cube third) where
  module _ {two : Span} (u : Sum first second two) where
    three-add : Summands two third
    three-add =
        let k = window x (omega arith) (omega arith) in
        omega (arith, u.normal, t₃.normal, p.least, p.most, q.least, q.most, t₁.least, t₁.most, t₂.least, t₂.most, t₃.least, t₃.most, u.least_left, u.most)

    module _ {s : Span} (v : Sum two third s) where
      width : (D : ℕ) → Width r D → Width s (3 * D + 15)
      width D w =
          let w² = p.width D D w w in
          let w³ = q.width _ D w² w in
          wider (omega arith)
          (v.width (3 * D + 11)
          (wider (omega arith)
          (u.width (2 * D + 7) (wider (omega arith) (t₁.width 1 D aerosol_first_lem.width w)) (wider (omega arith) (t₂.width 1 _ aerosol_second_lem.width w²))))
          (wider (omega arith) (t₃.width 1 _ aerosol_third_lem.width w³)))

      result : AerosolPressure r s
      unfolding aerosol_pressure
      result =
          let k = window x (omega arith) (omega arith) in
          -- at 0.19 the three summands come to 7.81
          let up² = product_upper x.normal x.normal p x.near x.near in
          let up³ = product_upper p.normal x.normal q up² x.near in
          let lower =
          sum_lower u.normal t₃.normal v
          (sum_lower t₁.normal t₂.normal u
          (quotient_lower aerosol_first_lem.normal x.normal t₁ (constant_lower (thousandths 125) aerosol_first_lem) x.near)
          (quotient_lower aerosol_second_lem.normal p.normal t₂ (constant_lower (thousandths 137) aerosol_second_lem) up²))
          (quotient_lower aerosol_third_lem.normal q.normal t₃ (constant_lower (thousandths 23) aerosol_third_lem) up³) in
          record {
            normal = v.normal;
            encloses = λ y n h.
                let h² = product_encloses p h h in
                let h³ = product_encloses q h² h in
                sum_encloses v
                (sum_encloses u (quotient_encloses t₁ (constant_encloses aerosol_first_lem n) h) (quotient_encloses t₂ (constant_encloses aerosol_second_lem n) h²))
                (quotient_encloses t₃ (constant_encloses aerosol_third_lem n) h³);
            width = λ D w. wider (omega arith) (width D w);
            least = omega (arith, t₁.least, u.least_left, v.least_left);
            most = exponent_most_of v.normal (wider (omega arith) (width _ x.narrow)) lower (omega arith) 3 (omega arith);
          }

in_window : {r : Span} → Distance 19 100 r → Window r
in_window x = window x (omega arith) (omega arith)

pub returns : goal.returns
returns c =
    result c.requires c.mul-square.ensures c.mul-cube.ensures
    c.quo-first.ensures c.quo-second.ensures c.quo-third.ensures
    c.add-two.ensures c.add.ensures

pub mul-square-requires : goal.mul-square-requires
mul-square-requires c = squares (in_window c.requires)

pub mul-cube-requires : goal.mul-cube-requires
mul-cube-requires c = cubes (in_window c.requires) c.mul-square.ensures

pub quo-first-requires : goal.quo-first-requires
quo-first-requires c = divides (in_window c.requires) (omega arith) (omega arith) (omega arith)

pub quo-second-requires : goal.quo-second-requires
quo-second-requires c = square_divides (in_window c.requires) c.mul-square.ensures (omega arith) (omega arith) (omega arith)

pub quo-third-requires : goal.quo-third-requires
quo-third-requires c = cube_divides (in_window c.requires) c.mul-square.ensures c.mul-cube.ensures (omega arith) (omega arith) (omega arith)

pub add-requires : goal.add-requires
add-requires c = three-add c.requires c.mul-square.ensures c.mul-cube.ensures c.quo-first.ensures c.quo-second.ensures c.quo-third.ensures c.add-two.ensures
