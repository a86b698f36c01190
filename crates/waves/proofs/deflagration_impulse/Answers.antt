-- `waves::deflagration_impulse` meets its contract: w is at most 3/2 and g at most 1, so that 0.4gw is at most six tenths.
-- Assumes nothing.
use Prim.Native.Nat.{ℕ, ◌+◌, ◌*◌}
use native.Mathlib.Omega.{arith}
use Rattle.exact.specs.Fraction.{whole}
use Rattle.span.specs.declared.Span.{Span}
use Rattle.span.specs.Spans.{Width, Product, Subtractable, Difference}
use Rattle.span.specs.Enclosing.{constant_encloses, product_encloses, difference_encloses, wider}
use Rattle.guidance.specs.Waves.{tenths, deflagration_impulse_at}
use Rattle.waves.specs.EndBounds.{normal_lower, constant_lower, constant_upper, product_lower, difference_lower, exponent_most_of, share_of}
use Rattle.waves.specs.Coefficients.{one, four_tenths, one_is, four_tenths_lem}
use Rattle.waves.specs.Deflagration.{Deflagrating, FallingImpulse, DeflagrationImpulse}
use Rattle.waves.proofs.Distances.{mach_exponent}
use Rattle.waves.proofs.deflagration_impulse.Goals as goal

module _ {w g r part lost : Span} (x : Deflagrating w g r) (p : Product four_tenths g part) (q : Product part w lost) where
  lost-width : (C : ℕ) → Width w C → Width lost (C + 6)
  lost-width C k = wider (omega arith) (q.width _ C (p.width 1 1 four_tenths_lem.width x.expansion_narrow) k)

  subtractable : Subtractable one lost
  unfolding whole
  subtractable =
      let low =
      product_lower p.normal x.mach q
      (product_lower four_tenths_lem.normal x.expansion p (constant_lower (tenths 4) four_tenths_lem) (normal_lower x.expansion 0 (omega (arith, x.exponent))))
      x.mach_most in
      record {
        left = one_is.normal;
        right = q.normal;
        share =
            share_of (constant_upper (whole 1) one_is) low (omega arith) (omega arith)
            (wider (omega arith) one_is.width) (wider (omega arith) (lost-width _ x.mach_narrow));
        least = omega arith;
        most = omega arith;
      }

  module _ {product left share fall s : Span} (a : Product w g product) (b : Difference one lost left) (d : Product product left share)
      (f : FallingImpulse r fall) (v : Product share fall s) where
    width : (C D : ℕ) → Width w C → Width r D → Width s (5 * C + 20 * D + 135)
    width C D k l =
        wider (omega arith)
        (v.width _ _
        (d.width _ _ (a.width C 1 k x.expansion_narrow) (b.width 1 _ one_is.width (lost-width C k)))
        (f.width D l))

    result : DeflagrationImpulse w g r s
    unfolding deflagration_impulse_at whole
    result =
        -- 3/2 of 1 of 1 of 3/10
        let low =
        product_lower d.normal f.normal v
        (product_lower a.normal b.normal d
        (product_lower x.mach x.expansion a x.mach_most (normal_lower x.expansion 0 (omega (arith, x.exponent))))
        (difference_lower one_is.normal q.normal b (constant_lower (whole 1) one_is)))
        f.lower in
        record {
          normal = v.normal;
          encloses = λ y z t n h i j.
              product_encloses v
              (product_encloses d (product_encloses a h i)
              (difference_encloses b (constant_encloses one_is n) (product_encloses q (product_encloses p (constant_encloses four_tenths_lem n) i) h)))
              (f.encloses t n j);
          width = λ C D k l. wider (omega arith) (width C D k l);
          least = omega (arith, x.exponent, x.mach_least, a.least, b.least, d.least, f.least, v.least);
          most = exponent_most_of v.normal (wider (omega arith) (width _ _ x.mach_narrow x.distance.narrow)) low (omega arith) 0 (omega arith);
        }

pub mul-product-requires : goal.mul-product-requires
mul-product-requires c =
    let x = c.requires in omega (arith, mach_exponent x, x.mach, x.expansion, x.exponent, x.mach_least)

pub mul-lost-requires : goal.mul-lost-requires
mul-lost-requires c =
    let x = c.requires in
    let p = c.mul-part.ensures in
    omega (arith, mach_exponent x, x.mach, x.exponent, x.mach_least, p.normal, p.least, p.most)

pub sub-left-requires : goal.sub-left-requires
sub-left-requires c =
    subtractable c.requires c.mul-part.ensures c.mul-lost.ensures

pub mul-share-requires : goal.mul-share-requires
mul-share-requires c =
    let x = c.requires in
    let a = c.mul-product.ensures in
    let b = c.sub-left.ensures in
    omega (arith, mach_exponent x, x.exponent, x.mach_least, a.normal, a.least, a.most, b.normal, b.least, b.most)

pub mul-requires : goal.mul-requires
mul-requires c =
    let x = c.requires in
    let a = c.mul-product.ensures in
    let b = c.sub-left.ensures in
    let d = c.mul-share.ensures in
    let f = c.falling_impulse-fall.ensures in
    omega (arith, mach_exponent x, x.exponent, x.mach_least, a.least, a.most, b.least, b.most, d.normal, d.least, d.most, f.normal, f.least, f.most)

pub returns : goal.returns
returns c =
    result c.requires c.mul-part.ensures c.mul-lost.ensures c.mul-product.ensures c.sub-left.ensures
    c.mul-share.ensures c.falling_impulse-fall.ensures c.mul.ensures
