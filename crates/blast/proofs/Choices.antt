-- Enclosures of a choice between two formulas, looser ones, and those of constants. Assumes nothing.
use Prim.Native.Nat.{ℕ, ◌≤◌}
use mathlib.Core.Path.{◌≡◌, subst⁻¹}
use mathlib.Core.Bool.{Bool, true, false, cond}
use native.Mathlib.Omega.{arith}
use Rattle.exact.specs.Fraction.{Ratio, of_ratio}
use Rattle.exact.specs.Formula.{Formula}
use Rattle.span.specs.declared.Span.{Span}
use Rattle.span.specs.Spans.{Constant}
use Rattle.span.specs.Enclosing.{constant_encloses, wider}
use Rattle.guidance.specs.Waves.{number}
use Rattle.blast.specs.Windows.{Window}
use Rattle.blast.specs.Promises.{Enclosure}

-- what lies in w lies in v
pub record Inner (w v : Window) : Type 0 where
  pub width : w.width ≤ v.width
  pub least : v.least ≤ w.least
  pub most : w.most ≤ v.most

pub looser : {x : Formula} {w v : Window} {s : Span} → Inner w v → Enclosure x w s → Enclosure x v s
looser i h =
    record {
      normal = h.normal;
      encloses = h.encloses;
      width = wider i.width h.width;
      least = omega (arith, i.least, h.least);
      most = omega (arith, i.most, h.most);
    }

pub chosen : {w : Window} {s : Span} (b : Bool) (x y : Formula) → b ≡ true → Enclosure x w s → Enclosure (cond b x y) w s
chosen {w} {s} b x y e h = subst⁻¹ (λ (i : Bool). Enclosure (cond i x y) w s) e h

pub otherwise : {w : Window} {s : Span} (b : Bool) (x y : Formula) → b ≡ false → Enclosure y w s → Enclosure (cond b x y) w s
otherwise {w} {s} b x y e h = subst⁻¹ (λ (i : Bool). Enclosure (cond i x y) w s) e h

-- a constant lies in every window that has its exponent
pub constant_enclosure : (q : Ratio) {w : Window} {e : ℕ} {s : Span} → Constant (of_ratio q) e s → Inner (record { width = 1; least = e; most = e }) w
    → Enclosure (number q) w s
constant_enclosure q k i =
    record {
      normal = k.normal;
      encloses = λ n l. constant_encloses k n;
      width = wider i.width k.width;
      least = omega (arith, k.exponent, i.least);
      most = omega (arith, k.exponent, i.most);
    }
