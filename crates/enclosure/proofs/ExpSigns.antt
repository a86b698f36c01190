-- From the bounds of e^y, y from 0 up, to the N-th ends at y and at -y. Assumes nothing.
use mathlib.Core.Path.{◌≡◌}
use Prim.Native.Nat.{ℕ, ◌+◌, ◌*◌, ◌-◌, ◌^◌, ◌≤◌, ◌<◌}
use native.Mathlib.Nat.{mul-pos}
use native.Mathlib.Omega.{arith}
use lib.Pow.{pow_pos}
use Rattle.exact.specs.Fraction.{Ratio, ◌≼◌, whole, ◌⊕◌, ◌⊗◌, power, ◌⊑◌, zero_f, neg, magnitude, Above0, ◌⊖◌, recip, sum}
use Rattle.exact.proofs.laws.Ratio.{≼_refl, ≼_trans, to≼, ⊗_mono}
use Rattle.exact.proofs.laws.Frac.{⊑_trans}
use Rattle.exact.proofs.laws.EndsMeet.{of_ratio_mono}
use Rattle.exact.proofs.laws.LogAbove.{powers_of_two}
use Rattle.exact.specs.laws.Reduction.{Most, UpperEnd}
use Rattle.exact.proofs.laws.Reduction.{most_mono, least_mono, lower_from, upper_from, lower_from_negative, upper_from_negative, most_times, most_upper}
use Rattle.exact.specs.Series.{factorial, exp_term, exp_lower, exp_tail, exp_upper}
use Rattle.exact.specs.Holding.{◌∈◌}
use Rattle.span.specs.declared.Span.{Span}
use Rattle.span.specs.Spans.{unit, unit_positive, hull, fraction, Normal, Quotient}
use Rattle.span.specs.Enclosing.{wider, divisor}
use Rattle.span.specs.Windows.{exponent_by}
use Rattle.span.specs.Bounds.{lower_end, upper_end, quotient_at, held}
use Rattle.span.specs.Constants.{constant}
use Rattle.fixed.specs.Logs.{fixed}
use Rattle.enclosure.specs.Promises.{octave}
use Rattle.enclosure.proofs.ClosedFractions.{tested}
use Rattle.enclosure.specs.ExpSteps.{low, high, binary, spare, ExpIn, ExpAt}

-- wider at the upper end
raise : {o : _} {U W : Ratio} → U ≼ W → UpperEnd o U → UpperEnd o W
raise l h = record { end = h.end; is = h.is; bound = ⊑_trans h.bound (of_ratio_mono l) }

-- a number of fixed point and its magnitude

size_least : (a b y : ℕ) → a ≡ b + y → binary y 30 ≼ magnitude (fixed a b)
unfolding binary magnitude fixed
size_least a b y h = let e : a - b ≡ y = omega arith in record { cross = rw e (omega arith) }

size_most : (a b y : ℕ) → a ≡ b + y → magnitude (fixed a b) ≼ binary y 30
unfolding binary magnitude fixed
size_most a b y h = let e : a - b ≡ y = omega arith in record { cross = rw e (omega arith) }

from_zero_lem : (a b : ℕ) → b ≤ a → zero_f ⊑ fixed a b
unfolding zero_f fixed
from_zero_lem a b l = record { cross = omega arith }

below-zero : (a b : ℕ) → a < b → ¬ (zero_f ⊑ fixed a b)
unfolding zero_f fixed
below-zero a b l h = omega (arith, h.cross)

small : (y : ℕ) → y < 512 * 2 ^ 30 → binary y 30 ≼ whole 512
unfolding binary whole
small y h = record { cross = omega arith }

same_count : 11303 ≤ 11303
same_count = omega arith

-- The exponent, by octaves: e^(k octaves) ≤ 2^k

octave_room : Above0 (whole 14 ⊖ binary octave 30)
unfolding binary whole ◌⊖◌
octave_room = record { above = omega arith }

octave_most : Most (binary octave 30) (whole 2)
unfolding binary exp_upper exp_lower exp_tail exp_term sum power factorial whole recip ◌⊖◌ ◌⊗◌ ◌⊕◌
octave_most = most_mono (≼_refl _) (most_upper _ 13 octave_room) (tested _ _ tt)

octaves : (y k : ℕ) → y ≤ k * octave → binary y 30 ≼ whole k ⊗ binary octave 30
unfolding binary whole ◌⊗◌
octaves y k h = record { cross = omega arith }

below_power : (a : Span) (k : ℕ) → low a ≼ whole (2 ^ k) → a.lo * 2 ^ a.e ≤ 2 ^ k * unit
unfolding low whole
below_power a k h = omega (arith, h.cross)

pub exponent_in : {w : Ratio} {t D h y : ℕ} {a : Span} → ExpIn w t D h (binary y 30) a → D ≤ 2 ^ 28 → (k : ℕ) → y ≤ k * octave → a.e ≤ 995 + k
exponent_in {t = t} {y = y} {a = a} p d k l =
    let m = most_mono (octaves y k l) (most_times octave_most k) (to≼ (powers_of_two k)) in
    omega (arith, exponent_by a.lo 29 a.e k (divisor p.normal p.width d) (below_power a k (≼_trans p.lower.begin (m.all t))))

-- y from 0 up
pub at_positive : (a b y : ℕ) {r : Span} → a ≡ b + y → y < 512 * 2 ^ 30 → ExpIn spare 11303 24 1739 (binary y 30) r → ExpAt a b r
unfolding spare
at_positive a b y {r} e s h =
    record {
      normal = h.normal;
      width = wider (omega arith) h.width;
      least = λ k i. omega (arith, h.least);
      most = λ k i. omega (arith, exponent_in h (omega arith) k (omega arith));
      lower = λ n l.
          lower_from (fixed a b) (from_zero_lem a b (omega arith)) (least_mono same_count (size_least a b y e) h.lower (≼_refl _)) n
          (omega arith);
      upper = λ n l.
          raise h.room
          (upper_from (fixed a b) (from_zero_lem a b (omega arith)) (most_mono (size_most a b y e) h.upper (≼_refl _)) 512 33 n
          (≼_trans (size_most a b y e) (small y s)) (omega arith));
    }

-- One over a span

abbrev pub one : Span
one = record { lo = 1073741824; hi = 1073741824; e = 994 }

one_positive : 0 < 1
one_positive = omega arith

one_in : fraction 1 1 one_positive ∈ hull one
one_in = (constant 1 1 one_positive 1073741824 1073741824 994 30 (omega arith) (omega arith) (omega arith) (omega arith) (omega arith)).holds

module _ {x r : Span} (m : Normal x) (d : 2 ^ 29 ≤ x.lo) (q : Quotient one x r) where
  quotient_low : low r ⊗ high x ≼ whole 1
  unfolding low high ◌⊗◌ whole
  quotient_low =
      let z : 0 < x.hi * 2 ^ x.e = mul-pos (omega (arith, m.least)) (pow_pos x.e) in
      let w : 0 < 1 * (x.hi * 2 ^ x.e) = omega (arith, z) in
      let h = held _ _ w (quotient_at 1 1 (x.hi * 2 ^ x.e) unit one_positive unit_positive w z q one_in (upper_end x m)) in
      record { cross = omega (arith, h.below) }

  quotient_high : whole 1 ≼ high r ⊗ low x
  unfolding low high ◌⊗◌ whole
  quotient_high =
      let z : 0 < x.lo * 2 ^ x.e = mul-pos (omega (arith, d)) (pow_pos x.e) in
      let w : 0 < 1 * (x.lo * 2 ^ x.e) = omega (arith, z) in
      let h = held _ _ w (quotient_at 1 1 (x.lo * 2 ^ x.e) unit one_positive unit_positive w z q one_in (lower_end x m)) in
      record { cross = omega (arith, h.above) }

-- -y, y above 0
pub at_negative : (a b y : ℕ) {x r : Span} → b ≡ a + y → 0 < y → y < 512 * 2 ^ 30 → ExpIn spare 11303 24 1739 (binary y 30) x → Quotient one x r
    → ExpAt a b r
unfolding spare neg fixed
at_negative a b y {x} {r} e z s h q =
    let far = divisor h.normal h.width (omega arith) in
    record {
      normal = q.normal;
      width = q.width 0 24 (record { narrow = omega arith }) h.width;
      least = λ k i. omega (arith, q.least, exponent_in h (omega arith) k (omega arith));
      most = λ k i. omega (arith, q.most, h.least);
      lower = λ n l.
          lower_from_negative (fixed a b) (below-zero a b (omega arith)) (most_mono (size_most b a y e) h.upper (≼_refl _)) 512 33 n
          (≼_trans (size_most b a y e) (small y s)) (omega arith) (low r)
          (≼_trans (⊗_mono (≼_refl (low r)) h.room) (quotient_low h.normal far q));
      upper = λ n l.
          upper_from_negative (fixed a b) (below-zero a b (omega arith))
          (least_mono same_count (size_least b a y e) h.lower (≼_refl _)) n (omega arith) (omega arith) (high r)
          (quotient_high h.normal far q);
    }
