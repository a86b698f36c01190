-- `waves::slow_front` meets its contract. Assumes nothing.
use Prim.Native.Nat.{ℕ}
use native.Mathlib.Omega.{arith}
use Rattle.exact.specs.Formula.{Formula, least}
use Rattle.span.specs.declared.Span.{Span}
use Rattle.span.specs.Spans.{Factors, Product, Smaller}
use Rattle.span.specs.Enclosing.{product_encloses, smaller_encloses, wider}
use Rattle.guidance.specs.Waves.{by_mass, slow_front}
use Rattle.waves.specs.EndBounds.{lower_coarser, product_lower, smaller_lower, exponent_most_of}
use Rattle.waves.specs.Fronts.{SixthRoot, Factor, Front}
use Rattle.waves.proofs.slow_front.Goals as goal

module _ {range mass : ℕ} {f root : Span} (a : Factor range f) (b : SixthRoot mass root) where
  factors : Factors f root
  factors =
      let f-most = exponent_most_of a.normal (wider (omega arith) a.width) a.most (omega arith) 6 (omega arith) in
      let root-most = exponent_most_of b.normal (wider (omega arith) b.width) b.most (omega arith) 4 (omega arith) in
      record { left = a.normal; right = b.normal; least = omega (arith, a.least, b.least); most = omega arith }

  by-mass : {v : Span} → Product f root v → Front (by_mass range mass) v
  by-mass p =
      let narrow = p.width _ _ a.width b.width in
      record {
        encloses = λ n h. product_encloses p (a.encloses n) (b.encloses n h);
        width = wider (omega arith) narrow;
        speed =
            record {
              normal = p.normal;
              narrow = wider (omega arith) narrow;
              least = omega (arith, a.least, b.least, p.least);
              most = lower_coarser (product_lower a.normal b.normal p a.most b.most) (omega arith) (omega arith);
            };
      }

-- the smaller of two
smaller-front : {x y : Formula} {a b v : Span} → Front x a → Front y b → Smaller a b v → Front (least x y) v
smaller-front f g s =
    let narrow = s.width _ f.width g.width in
    record {
      encloses = λ n h. smaller_encloses s (f.encloses n h) (g.encloses n h);
      width = narrow;
      speed =
          record {
            normal = s.normal;
            narrow = wider (omega arith) narrow;
            least = omega (arith, f.speed.least, g.speed.least, s.exponent);
            most = smaller_lower f.speed.normal g.speed.normal s g.speed.most;
          };
    }

pub mul-v-requires : goal.mul-v-requires
mul-v-requires c =
    factors c.factor.ensures c.sixth_root.ensures

pub returns : goal.returns
unfolding slow_front
returns c =
    smaller-front (by-mass c.factor.ensures c.sixth_root.ensures c.mul-v.ensures) c.range_end-end.ensures c.lesser.ensures
