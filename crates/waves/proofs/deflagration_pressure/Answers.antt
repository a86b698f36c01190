-- `waves::deflagration_pressure` meets its contract. Assumes nothing.
use Prim.Native.Nat.{ℕ, ◌+◌, ◌*◌}
use native.Mathlib.Omega.{arith}
use Rattle.span.specs.declared.Span.{Span}
use Rattle.span.specs.Spans.{Width, Product}
use Rattle.span.specs.Enclosing.{product_encloses, wider}
use Rattle.guidance.specs.Waves.{deflagration_pressure_at}
use Rattle.waves.specs.EndBounds.{normal_lower, product_lower, exponent_most_of}
use Rattle.waves.specs.Deflagration.{Deflagrating, FallingPressure, DeflagrationPressure}
use Rattle.waves.proofs.Distances.{mach_exponent}
use Rattle.waves.proofs.deflagration_pressure.Goals as goal

module _ {w g r square share fall s : Span} (x : Deflagrating w g r) (p : Product w w square) (q : Product square g share)
    (f : FallingPressure r fall) (v : Product share fall s) where
  width : (C D : ℕ) → Width w C → Width r D → Width s (2 * C + 12 * D + 65)
  width C D k l = wider (omega arith) (v.width _ _ (q.width _ 1 (p.width C C k k) x.expansion_narrow) (f.width D l))

  result : DeflagrationPressure w g r s
  unfolding deflagration_pressure_at
  result =
      -- 9/4 of 1 of 83/33
      let low =
      product_lower q.normal f.normal v
      (product_lower p.normal x.expansion q (product_lower x.mach x.mach p x.mach_most x.mach_most) (normal_lower x.expansion 0 (omega (arith, x.exponent))))
      f.lower in
      record {
        normal = v.normal;
        encloses = λ a b c n h i j. product_encloses v (product_encloses q (product_encloses p h h) i) (f.encloses c n j);
        width = λ C D k l. wider (omega arith) (width C D k l);
        least = omega (arith, x.exponent, x.mach_least, p.least, q.least, f.least, v.least);
        most = exponent_most_of v.normal (wider (omega arith) (width _ _ x.mach_narrow x.distance.narrow)) low (omega arith) 3 (omega arith);
      }

pub mul-square-requires : goal.mul-square-requires
mul-square-requires c =
    let x = c.requires in omega (arith, mach_exponent x, x.mach, x.expansion, x.exponent, x.mach_least)

pub mul-share-requires : goal.mul-share-requires
mul-share-requires c =
    let x = c.requires in
    let p = c.mul-square.ensures in
    omega (arith, mach_exponent x, x.mach, x.expansion, x.exponent, x.mach_least, p.normal, p.least, p.most)

pub mul-requires : goal.mul-requires
mul-requires c =
    let x = c.requires in
    let p = c.mul-square.ensures in
    let q = c.mul-share.ensures in
    let f = c.falling_pressure-fall.ensures in
    omega (arith, mach_exponent x, x.exponent, x.mach_least, p.least, p.most, q.normal, q.least, q.most, f.normal, f.least, f.most)

pub returns : goal.returns
returns c =
    result c.requires c.mul-square.ensures c.mul-share.ensures c.falling_pressure-fall.ensures c.mul.ensures
