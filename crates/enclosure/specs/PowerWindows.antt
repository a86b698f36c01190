-- For the callers: where x^a lies for fractions x and a = p/q, from whole powers, for every N from a constant on: between two numbers
-- (`power_between`), or within a span of the source (`power_enclosed`). Assumes nothing.
use Rattle.std.specs.Prelude.{ℕ, suc, ◌+◌, ◌*◌, ◌-◌, ◌^◌, ◌≤◌, ◌≡◌}
use Rattle.std.proofs.Common.{sym, ap, add-one, arith, mul-le-mul_right, pow_pos}
use Rattle.std.proofs.Math.Option.{some}
use Rattle.exact.specs.Fraction.{Ratio, ◌≼◌, Above0, whole, ◌⊕◌, ◌⊗◌, ◌⊖◌, power, of_ratio}
use Rattle.exact.specs.Series.{one_over}
use Rattle.exact.specs.Formula.{const, power_of, bracket_at}
use Rattle.exact.proofs.laws.Ratio.{≼_refl, ≼_trans, ⊗_mono, power_mono}
use Rattle.exact.specs.laws.Width.{half}
use Rattle.exact.proofs.laws.ExpSpread.{slack}
use Rattle.exact.specs.laws.Containment.{Inside}
use Rattle.exact.proofs.laws.Points.{pair, signed_least, signed_most, positive_of}
use Rattle.exact.proofs.laws.PowerEnds.{power_ends, less_above, ends_between}
use Rattle.exact.proofs.laws.Quotient.{recip_below}
use Rattle.span.specs.declared.Span.{Span}
use Rattle.span.specs.Spans.{unit, units, hull, Normal, Width}
use Rattle.span.specs.Constants.{unit_by}
use Rattle.span.specs.Enclosing.{Encloses}
use Rattle.enclosure.specs.ExpSteps.{low, high}

-- x lies between 2^-K and 2^K, so that a ln x is below c
pub record Reached (a x : Ratio) (K c : ℕ) : Type 0 where
  pub above : Above0 x
  pub most : x ≼ whole (2 ^ K)
  pub least : whole 1 ≼ whole (2 ^ K) ⊗ x
  pub octaves : a ⊗ whole (K + 1) ≼ whole c

pub whole_reached : (a : Ratio) (m K c : ℕ) → 1 ≤ m → m ≤ 2 ^ K → a.num * (K + 1) ≤ c * a.den → Reached a (whole m) K c
unfolding whole ◌⊗◌
whole_reached a m K c l h o =
    record {
      above = record { above = l };
      most = record { cross = omega (arith, h) };
      least = record { cross = omega (arith, mul-le-mul_right (2 ^ K) l, pow_pos K) };
      octaves = record { cross = omega (arith, o) };
    }

-- d^q ≤ x^p ≤ D^q puts x^a between any L a little below d and any U a little above D, 2^-k of them
pub record Bounded (a x : Ratio) (k : ℕ) (d D L U : Ratio) : Type 0 where
  pub from : power d a.den ≼ power x a.num
  pub to : power x a.num ≼ power D a.den
  pub lower : L ⊗ slack k ≼ d ⊗ (whole 1 ⊖ power half k)
  pub upper : D ⊗ slack k ≼ U ⊗ (whole 1 ⊖ power half k)

pub power_between : {a x : Ratio} {K c : ℕ} {d D L U : Ratio} (k : ℕ) → 1 ≤ k → Reached a x K c → Bounded a x k d D L U → (n : ℕ) → suc (4 * c + k) ≤ n
    → Inside (bracket_at (power_of (of_ratio a) (const (of_ratio x))) n) (some (pair (of_ratio L) (of_ratio U)))
power_between {a} {x} {K} {c} {d} {D} {L} {U} k o r h n l =
    ends_between a (of_ratio x) k n
    (power_ends a (of_ratio x) (positive_of x r.above) K c k n (≼_trans (signed_most x) r.most)
    (λ u. recip_below _ _ u (≼_trans r.least (⊗_mono (≼_refl (whole (2 ^ K))) (signed_least x)))) (octaves r.octaves) l)
    d D L U (less_above k o)
    (≼_trans h.from (power_mono (signed_least x) a.num)) (≼_trans (power_mono (signed_most x) a.num) h.to) h.lower h.upper
  where
    octaves : a ⊗ whole (K + 1) ≼ whole c → a ⊗ whole (suc K) ≼ whole c
    octaves e = rw (sym (add-one K)) e

-- Spans of the source

-- m quarters of 2^-j
unfoldable pub quarters : ℕ → ℕ → Ratio
quarters m j = record { num = m; den = 4 * 2 ^ j; positive = omega (arith, pow_pos j) }

-- s is one unit of 2^-j wide, and x^a is a quarter of a unit or more from either end
pub record PowerIn (a x : Ratio) (j : ℕ) (s : Span) : Type 0 where
  pub scale : j + s.e ≡ 1024
  pub normal : Normal s
  pub close : s.hi ≤ s.lo + 1
  pub from : power (quarters (4 * s.lo + 1) j) a.den ≼ power x a.num
  pub to : power x a.num ≼ power (quarters (4 * s.hi - 1) j) a.den

-- a quarter of a unit is more than 2^-35 of either end
spare_lower : (s : Span) (j : ℕ) → j + s.e ≡ 1024 → s.lo ≤ 2 ^ 31 → low s ⊗ slack 36 ≼ quarters (4 * s.lo + 1) j ⊗ (whole 1 ⊖ power half 36)
unfolding low quarters half one_over power whole ◌⊕◌ ◌⊖◌ ◌⊗◌
spare_lower s j e h =
    let one : 2 ^ j * 2 ^ s.e ≡ unit = unit_by j s.e e in
    let thin : 8 * s.lo + 1 ≤ 2 ^ 36 = omega arith in
    record { cross = omega (arith, ap (λ (u : ℕ). s.lo * u) one, mul-le-mul_right unit thin) }

spare_upper : (s : Span) (j D : ℕ) → j + s.e ≡ 1024 → s.hi ≤ 2 ^ 31 → D + 1 ≡ 4 * s.hi → quarters D j ⊗ slack 36 ≼ high s ⊗ (whole 1 ⊖ power half 36)
unfolding high quarters half one_over power whole ◌⊕◌ ◌⊖◌ ◌⊗◌
spare_upper s j D e h d =
    let one : 2 ^ j * 2 ^ s.e ≡ unit = unit_by j s.e e in
    let thin : 2 * D + 1 ≤ 2 ^ 36 = omega arith in
    record { cross = omega (arith, last s.hi (2 ^ s.e) (2 ^ j) unit one d thin) }
  where
    last : (h E J U : ℕ) → J * E ≡ U → D + 1 ≡ 4 * h → 2 * D + 1 ≤ 2 ^ 36 → D * (2 ^ 36 + 1) * U ≤ h * E * (2 ^ 36 - 1) * (4 * J)
    last h E J U p q t = omega (arith, ap (λ (u : ℕ). h * u) p, ap (λ (u : ℕ). u * U) q, mul-le-mul_right U t)

pub power_enclosed : {a x : Ratio} {K c j : ℕ} {s : Span} → Reached a x K c → PowerIn a x j s → (n : ℕ) → 4 * c + 37 ≤ n
    → Encloses s (power_of (of_ratio a) (const (of_ratio x))) n
unfolding low high hull units of_ratio
power_enclosed {j = j} {s = s} r h n l =
    record {
      inside =
          power_between {L = low s} {U = high s} 36 (omega arith) r
          (record {
            from = h.from;
            to = h.to;
            lower = spare_lower s j h.scale (omega (arith, h.normal));
            upper = spare_upper s j _ h.scale h.normal.most (omega (arith, h.normal.least));
          })
          n (omega arith);
    }

pub power_narrow : {a x : Ratio} {j : ℕ} {s : Span} → PowerIn a x j s → Width s 1
power_narrow h = record { narrow = omega (arith, h.normal, h.close) }
