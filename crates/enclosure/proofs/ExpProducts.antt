-- Spans of e^x and e^y multiply to one of e^(x + y), and the digits of a number add up to it. Assumes nothing.
use mathlib.Core.Path.{◌≡◌, sym}
use Prim.Native.Nat.{ℕ, ◌+◌, ◌*◌, ◌^◌, ◌≤◌, ◌<◌}
use native.Mathlib.Nat.{mul-pos}
use native.Mathlib.Omega.{arith}
use Rattle.exact.specs.Fraction.{Ratio, ◌≼◌, ◌≈◌, whole, ◌⊕◌, ◌⊗◌}
use Rattle.exact.proofs.laws.Ratio.{≼_refl, ≼_trans, to≼, from≼, ⊗_mono}
use Rattle.exact.proofs.laws.Reduction.{most_sum, most_mono, least_sum, least_mono}
use Rattle.span.specs.declared.Span.{Span}
use Rattle.span.specs.Spans.{unit, unit_positive, Normal, Factors, Product}
use Rattle.span.specs.Bounds.{lower_end, upper_end, product_at, held}
use Rattle.enclosure.specs.ExpSteps.{low, high, binary, ExpIn}

-- the ends are points, and their products too

both_positive : 0 < unit * unit
both_positive = mul-pos unit_positive unit_positive

module _ {a b r : Span} (p : Product a b r) (m : Normal a) (n : Normal b) where
  product_low : low r ≼ low a ⊗ low b
  unfolding low ◌⊗◌
  product_low = record { cross = (held _ _ both_positive (product_at _ unit _ unit unit_positive unit_positive both_positive p (lower_end a m) (lower_end b n))).below }

  product_high : high a ⊗ high b ≼ high r
  unfolding high ◌⊗◌
  product_high = record { cross = (held _ _ both_positive (product_at _ unit _ unit unit_positive unit_positive both_positive p (upper_end a m) (upper_end b n))).above }

rooms : (A B w : Ratio) → A ⊗ B ⊗ w ≼ A ⊗ whole 1 ⊗ (B ⊗ w)
unfolding whole ◌⊗◌
rooms A B w = omega arith

pub factors : {a b : Span} {v w x y : Ratio} {s t C D h i : ℕ} → ExpIn v s C h x a → ExpIn w t D i y b → h + i < 2 ^ 16 → Factors a b
factors p q l = record { left = p.normal; right = q.normal; least = omega arith; most = omega arith }

-- the product, from the promises of its factors, and y for a sum that is the same
pub product_in : {a b r : Span} {w x y z : Ratio} {s t C D h i : ℕ} (u E j : ℕ) → Product a b r
    → ExpIn (whole 1) s C h x a → ExpIn w t D i y b → x ⊕ y ≈ z → s + t ≤ u → C + D + 2 ≡ E → h + i ≤ j + 992 → ExpIn w u E j z r
product_in {w = w} {C = C} {D = D} u E j p l r e m k n =
    record {
      normal = p.normal;
      width = rw (sym k) (p.width C D l.width r.width);
      least = omega arith;
      most = omega arith;
      lower = least_mono m (to≼ e) (least_sum l.lower r.lower) (product_low p l.normal r.normal);
      bound = l.bound ⊗ r.bound;
      upper = most_mono (from≼ e) (most_sum l.upper r.upper) (≼_refl _);
      room =
          ≼_trans (rooms l.bound r.bound w)
          (≼_trans (⊗_mono l.room r.room) (product_high p l.normal r.normal));
    }

-- Digits

pub whole_digits : (n d e : ℕ) → d * 16 + e ≡ n → whole d ⊗ whole 16 ⊕ whole e ⊗ whole 1 ≈ whole n
unfolding whole ◌⊕◌ ◌⊗◌
whole_digits n d e h = record { cross = omega arith }

pub two_digits : (d e : ℕ) → whole d ⊗ binary 1 4 ⊕ whole e ⊗ binary 1 8 ≈ binary (16 * d + e) 8
unfolding binary whole ◌⊕◌ ◌⊗◌
two_digits d e = record { cross = omega arith }

pub part_digits : (z d e q : ℕ) → d * 2 ^ 26 + e * 2 ^ 22 + q ≡ z → binary (16 * d + e) 8 ⊕ binary q 30 ≈ binary z 30
unfolding binary ◌⊕◌
part_digits z d e q h = record { cross = omega arith }

pub all_digits_lem : (y n z : ℕ) → n * 2 ^ 30 + z ≡ y → whole n ⊕ binary z 30 ≈ binary y 30
unfolding whole binary ◌⊕◌
all_digits_lem y n z h = record { cross = omega arith }
