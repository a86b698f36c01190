-- E from the words of its cloud: what the calls of `energy` promise, put together. Assumes nothing.
use Prim.Native.Nat.{ℕ, ◌^◌, ◌≤◌, ◌<◌}
use mathlib.Core.Path.{◌≡◌, subst}
use mathlib.Core.Bool.{Bool, true, false}
use native.Mathlib.Omega.{arith}
use Rattle.exact.specs.Fraction.{Ratio, ◌≈◌, whole, ◌⊗◌, of_ratio}
use Rattle.exact.specs.Bracket.{Bracket}
use Rattle.exact.proofs.laws.Ratio.{to≼, from≼}
use Rattle.exact.proofs.laws.EndsMeet.{of_ratio_mono}
use Rattle.exact.proofs.laws.Points.{signed_product, product_signed}
use Rattle.exact.proofs.laws.Inclusion.{const_inside}
use Rattle.exact.specs.Holding.{◌∈◌}
use Rattle.span.specs.declared.Span.{Span}
use Rattle.span.specs.Spans.{hull, fraction, FractionOf, Constant, Factors, Product}
use Rattle.span.specs.Enclosing.{Encloses, wider}
use Rattle.span.specs.Bounds.{same_in}
use Rattle.guidance.specs.declared.Cloud.{Cloud}
use Rattle.guidance.specs.Clouds.{over, energy}
use Rattle.guidance.specs.CloudWords.{reduction}
use Rattle.guidance.specs.Waves.{number}
use Rattle.blast.specs.Intermediates.{Worded, EnergySpan}

-- a fraction of the same value
pub value_in : {x y : Ratio} {K : Bracket} → x ≈ y → of_ratio y ∈ K → of_ratio x ∈ K
value_in h m = same_in (of_ratio_mono (from≼ h)) (of_ratio_mono (to≼ h)) m

pub number_encloses : (q : Ratio) (s : Span) → of_ratio q ∈ hull s → (n : ℕ) → Encloses s (number q) n
number_encloses q s m n = record { inside = const_inside (of_ratio q) n (hull s) m }

times_one : (x y : Ratio) → y ≈ x ⊗ whole 1 → y ≈ x
unfolding whole ◌⊗◌
times_one x y h = omega arith

module _ {k : Cloud} {a : Span} (w : Worded k) (f : FractionOf k.joules k.parts a) (small : k.joules < 2 ^ 64) where
  least : 978 ≤ a.e
  least = omega (arith, f.least 0 16 w.joules (omega (arith, w.parts_most)))

  most : a.e ≤ 1059
  most = omega (arith, f.most 64 0 small w.parts)

  pub quarters_factors : {q : Span} → Constant (of_ratio (reduction true)) 993 q → Factors a q
  quarters_factors i = record { left = f.normal; right = i.normal; least = omega (arith, least, i.exponent); most = omega (arith, most, i.exponent) }

  words_in : (z : 0 < k.parts) → of_ratio (over k.joules k.parts z) ∈ hull a
  unfolding of_ratio fraction
  words_in z = f.holds z

  pub energy_plain : k.aerosol ≡ false → EnergySpan k a
  energy_plain e =
      record {
        energy = λ c h.
            let same = times_one _ _ (subst (λ (b : Bool). energy c ≈ over k.joules k.parts h.parts ⊗ reduction b) e h.energy) in
            record {
              normal = f.normal;
              encloses = λ n l. number_encloses (energy c) a (value_in same (words_in h.parts)) n;
              width = wider (omega arith) f.width;
              least = omega (arith, least);
              most = omega (arith, most);
            };
      }

  pub energy_reduced : {q r : Span} → Constant (of_ratio (reduction true)) 993 q → k.aerosol ≡ true → Product a q r → EnergySpan k r
  energy_reduced {r = r} i e p =
      record {
        energy = λ c h.
            let x = over k.joules k.parts h.parts in
            let same = subst (λ (b : Bool). energy c ≈ x ⊗ reduction b) e h.energy in
            let m = p.holds _ _ (words_in h.parts) i.holds in
            record {
              normal = p.normal;
              encloses = λ n l. number_encloses (energy c) r (value_in same (same_in (product_signed x _) (signed_product x _) m)) n;
              width = wider (omega arith) (p.width 8 1 f.width i.width);
              least = omega (arith, least, p.least, i.exponent);
              most = omega (arith, most, p.most, i.exponent);
            };
      }
