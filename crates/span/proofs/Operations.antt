-- What each operation hands to `norm` may be rounded, and what `norm` promises of it is what the operation promises.
-- All on plain values: the needs of the functions only cite these. Assumes nothing.
use mathlib.Core.Path.{◌≡◌, refl, sym, ap, subst₂, ◌∙◌}
use Prim.Native.Nat.{ℕ, zero, suc, ◌+◌, ◌*◌, ◌/◌, ◌-◌, ◌^◌, ◌≤◌, ◌<◌}
use native.Mathlib.Nat.{le_trans, le_of_eq, mul-pos, mul-le-mul, mul-le-mul_right, le_of_mul-le-mul_right, lt_of_mul-lt-mul_right}
use native.Mathlib.Omega.{arith}
use lib.Pow.{pow_pos}
use Rattle.std.specs.Int.{div_ceil}
use Rattle.std.proofs.lemmas.Grind.{div_ceil_times}
use Rattle.exact.specs.Fraction.{Frac, ◌⊑◌, ◌⊞◌}
use Rattle.exact.proofs.laws.Frac.{⊑_trans}
use Rattle.exact.specs.Holding.{◌∈◌}
use Rattle.span.specs.declared.Span.{Span}
use Rattle.span.specs.Spans.{unit, unit_positive, units, hull, whole_f, Whole, FractionOf, Factors, Product, Divisible, Quotient, Sum}
use Rattle.span.specs.Rounding.{Cuttable, Roundable, Rounded, ShiftedDown, ShiftedUp, Aligned}
use Rattle.span.specs.Enclosing.{wider, divisor}
use Rattle.span.specs.Bounds.{fraction_in, whole_at, quotient_at}
use Rattle.span.specs.Powers.{powers, shared, factored, product_high, quotient}
use Rattle.span.proofs.Points.{product_points, quotient_points, sum_points}
use Rattle.span.proofs.Widths.{product_width, quotient_width, sum_width}

-- Whole numbers

-- 2^1024, written out, is a unit
to_units : (x n : ℕ) → x ≤ n * 2 ^ 1024 → x ≤ n * unit
unfolding unit
to_units x n h = h

from_units : (x n : ℕ) → n * 2 ^ 1024 ≤ x → n * unit ≤ x
unfolding unit
from_units x n h = h

of_units : (x n : ℕ) → x ≤ n * unit → x ≤ n * 2 ^ 1024
unfolding unit
of_units x n h = h

in_units : (x n : ℕ) → n * unit ≤ x → n * 2 ^ 1024 ≤ x
unfolding unit
in_units x n h = h

whole_in : (n i j : ℕ) → i ≤ n * unit → n * unit ≤ j → whole_f n ∈ record { lo = units i; hi = units j }
unfolding units whole_f
whole_in n i j h k = record { above = record { cross = omega arith }; below = record { cross = omega arith } }

pub whole_number : (n : ℕ) (r : Span) → Rounded n n 1024 r → Whole n r
unfolding hull
whole_number n r h =
    record {
      normal = h.normal;
      holds = whole_in n _ _ (to_units _ n h.below) (from_units _ n h.above);
      lower_greatest = λ m l. h.lower_greatest m (of_units _ n l);
      upper_least = λ m l. h.upper_least m (in_units _ n l);
      width = h.width 0 (record { narrow = omega arith });
      least = λ k l. omega (arith, h.least k l);
      most = λ k l. omega (arith, h.most k l);
    }

-- from 2^t to 2^(t + 2), both in, the highest bit i is t and what stands above it
highest : (t q h i j : ℕ) → i ≡ t + q → j ≡ 1 + i → 2 ^ t ≤ h → h ≤ 4 * 2 ^ t → q * (2 * 2 ^ t) ≤ h → h < q * (2 * 2 ^ t) + 2 * 2 ^ t → (2 ^ i ≤ h) × (h < 2 ^ j)
highest t zero h i j ei ej low high below near = (omega (arith, powers t 0 i (omega arith)), omega (arith, powers t 1 j (omega arith)))
highest t (suc zero) h i j ei ej low high below near = (omega (arith, powers t 1 i (omega arith)), omega (arith, powers t 2 j (omega arith)))
highest t (suc (suc zero)) h i j ei ej low high below near = (omega (arith, powers t 2 i (omega arith)), omega (arith, powers t 3 j (omega arith)))
highest t (suc (suc (suc q))) h i j ei ej low high below near = absurd (omega (arith, pow_pos t))

-- Products

joined : (p q s t e : ℕ) → e + 1024 ≡ s + t → p * q * 2 ^ e * unit ≡ p * 2 ^ s * (q * 2 ^ t)
unfolding unit
joined p q s t e h = shared (p * q) e 1024 (s + t) h ∙ sym (factored p q s t)

-- l, h and e are what the source computes
pub record Multiplied (a b : Span) (l h e : ℕ) : Type 0 where
  pub low : l ≡ a.lo * b.lo
  pub high : h ≡ a.hi * b.hi
  pub exponent : e + 1024 ≡ a.e + b.e

pub product_fits : (a b : Span) → Factors a b → (a.lo * b.lo ≤ a.hi * b.hi) × (a.hi * b.hi ≤ 2 ^ 62)
product_fits a b f = (mul-le-mul f.left.ordered f.right.ordered, product_high f.left.most f.right.most)

-- q is what stands above bit 60 of the upper end
pub product_cuttable : (a b : Span) (l h e q : ℕ) → Factors a b → Multiplied a b l h e → q ≡ h / 2 ^ 61 → Cuttable l h e (30 + q)
product_cuttable a b l h e q f m eq =
    let low : 2 ^ 60 ≤ a.hi * b.hi = mul-le-mul f.left.least f.right.least in
    let all = product_fits a b f in
    let bit = highest 60 q h (30 + (30 + q)) (31 + (30 + q)) (omega arith) (omega arith) (omega arith) (omega arith) (omega arith) (omega arith) in
    record { ordered = omega arith; least = bit.0; most = bit.1; few = omega arith; room = omega arith }

pub product_rounded : (a b r : Span) (l u e : ℕ) → Factors a b → Multiplied a b l u e → Rounded l u e r → Product a b r
unfolding hull
product_rounded a b r l u e f m n =
    let h : Rounded (a.lo * b.lo) (a.hi * b.hi) e r = subst₂ (λ (x y : ℕ). Rounded x y e r) m.low m.high n in
    let all = m.exponent in
    let high = product_high f.left.most f.right.most in
    record {
      normal = h.normal;
      holds =
          product_points _ _ _ _ _ _
          (le_trans (mul-le-mul_right unit h.below) (le_of_eq (joined a.lo b.lo a.e b.e e all)))
          (le_trans (le_of_eq (sym (joined a.hi b.hi a.e b.e e all))) (mul-le-mul_right unit h.above));
      lower_greatest = λ m l.
          h.lower_greatest m (le_of_mul-le-mul_right {k = unit} (le_trans l (le_of_eq (sym (joined a.lo b.lo a.e b.e e all)))) unit_positive);
      upper_least = λ m l.
          h.upper_least m (le_of_mul-le-mul_right {k = unit} (le_trans (le_of_eq (joined a.hi b.hi a.e b.e e all)) l) unit_positive);
      width = λ C D v w. wider (omega arith) (h.width (C + D) (product_width _ _ _ _ C D f.left.ordered v w));
      least = omega (arith, h.least 60 (mul-le-mul f.left.least f.right.least));
      most = omega (arith, h.most 63 (omega arith));
    }

-- Quotients

scaled : (m s f : ℕ) → 32 + f ≡ s + 1024 → m * 2 ^ 32 * 2 ^ f ≡ m * 2 ^ s * unit
unfolding unit
scaled m s f h = shared m 32 f (s + 1024) h ∙ sym (shared m s 1024 (s + 1024) refl)

-- l and h are the ends of the quotient in 2^-32
pub record Divided (a b : Span) (l h : ℕ) : Type 0 where
  pub low_below : l * b.hi ≤ a.lo * 2 ^ 32
  pub low_near : a.lo * 2 ^ 32 < l * b.hi + b.hi
  pub high_above : a.hi * 2 ^ 32 ≤ h * b.lo
  pub high_near : h * b.lo < a.hi * 2 ^ 32 + b.lo
  pub least : 2 ^ 31 ≤ h
  pub most : h < 2 ^ 35

divided_by : (a b : Span) → Divisible a b → Divided a b (a.lo * 2 ^ 32 / b.hi) (div_ceil (a.hi * 2 ^ 32) b.lo)
divided_by a b d =
    let below = quotient (a.lo * 2 ^ 32) b.hi (omega arith) in
    let above = div_ceil_times (a.hi * 2 ^ 32) b.lo (omega arith) in
    record {
      low_below = below.0;
      low_near = below.1;
      high_above = above.0;
      high_near = above.1;
      least = le_of_mul-le-mul_right {k = b.lo} (omega (arith, above.0)) (omega arith);
      most = lt_of_mul-lt-mul_right b.lo (omega (arith, above.1));
    }

-- l and h are what the source divides
pub divided : (a b : Span) (l h : ℕ) → Divisible a b → l ≡ a.lo * 2 ^ 32 / b.hi → h ≡ div_ceil (a.hi * 2 ^ 32) b.lo → Divided a b l h
divided a b l h d el eh = rw (el, eh) (divided_by a b d)

pub quotient_roundable : (a b : Span) (l h : ℕ) → Divisible a b → Divided a b l h → Roundable l h (a.e + 992 - b.e)
quotient_roundable a b l h d v =
    let up : h * b.lo ≤ h * b.hi = omega (arith, mul-le-mul_right h d.right.ordered) in
    let in_order : l ≤ h = le_of_mul-le-mul_right {k = b.hi} (omega arith) (omega arith) in
    record { some = omega arith; fits = omega arith; ordered = in_order; least = omega arith; most = omega arith }

-- m at the exponent k of the result, times y·2^f, in the terms of what was divided
lifted : (m y e f k : ℕ) → e ≤ k → m * 2 ^ k * (y * 2 ^ f) ≡ m * 2 ^ (k - e) * y * 2 ^ (e + f)
lifted m y e f k h = ap (λ (i : ℕ). i * (y * 2 ^ f)) (sym (shared m (k - e) e k (omega arith))) ∙ factored (m * 2 ^ (k - e)) y e f

-- X is the dividend's end, in 2^-32; l its quotient by y, rounded downward, and h upward
quotient_greatest : (m X y l e f k Y : ℕ) → e ≤ k → X * 2 ^ (e + f) ≡ Y → X < l * y + y → m * 2 ^ k * (y * 2 ^ f) ≤ Y → m * 2 ^ k ≤ l * 2 ^ e
quotient_greatest m X y l e f k Y o same near h =
    let under : m * 2 ^ (k - e) * y ≤ X = le_of_mul-le-mul_right {k = 2 ^ (e + f)} (omega (arith, lifted m y e f k o)) (pow_pos (e + f)) in
    let less : m * 2 ^ (k - e) < l + 1 = lt_of_mul-lt-mul_right y (omega arith) in
    let most : m * 2 ^ (k - e) ≤ l = omega arith in
    omega (arith, shared m (k - e) e k (omega arith), mul-le-mul_right (2 ^ e) most)

quotient_lowest : (m X y h e f k Y : ℕ) → e ≤ k → X * 2 ^ (e + f) ≡ Y → h * y < X + y → Y ≤ m * 2 ^ k * (y * 2 ^ f) → h * 2 ^ e ≤ m * 2 ^ k
quotient_lowest m X y h e f k Y o same near g =
    let over : X ≤ m * 2 ^ (k - e) * y = le_of_mul-le-mul_right {k = 2 ^ (e + f)} (omega (arith, lifted m y e f k o)) (pow_pos (e + f)) in
    let less : h < m * 2 ^ (k - e) + 1 = lt_of_mul-lt-mul_right y (omega arith) in
    let most : h ≤ m * 2 ^ (k - e) = omega arith in
    omega (arith, shared m (k - e) e k (omega arith), mul-le-mul_right (2 ^ e) most)

pub quotient_rounded : (a b r : Span) (l h : ℕ) → Divisible a b → Divided a b l h → Rounded l h (a.e + 992 - b.e) r → Quotient a b r
unfolding hull units
quotient_rounded a b r l h d v n =
    let e = a.e + 992 - b.e in
    let all : 32 + (e + b.e) ≡ a.e + 1024 = omega arith in
    let up : e ≤ r.e = omega (arith, n.least 31 v.least) in
    record {
      normal = n.normal;
      divisor = record { above = mul-pos {m = b.lo} (omega arith) (pow_pos b.e) };
      holds =
          quotient_points _ _ _ _ _ _
          (le_trans (mul-le-mul_right (b.hi * 2 ^ b.e) n.below)
          (le_trans (le_of_eq (factored l b.hi e b.e))
          (le_trans (mul-le-mul_right (2 ^ (e + b.e)) v.low_below) (le_of_eq (scaled a.lo a.e (e + b.e) all)))))
          (le_trans (le_of_eq (sym (scaled a.hi a.e (e + b.e) all)))
          (le_trans (mul-le-mul_right (2 ^ (e + b.e)) v.high_above)
          (le_trans (le_of_eq (sym (factored h b.lo e b.e))) (mul-le-mul_right (b.lo * 2 ^ b.e) n.above))));
      lower_greatest = λ m k. n.lower_greatest m (quotient_greatest m _ b.hi l e b.e r.e _ up (scaled a.lo a.e (e + b.e) all) v.low_near k);
      upper_least = λ m k. n.upper_least m (quotient_lowest m _ b.lo h e b.e r.e _ up (scaled a.hi a.e (e + b.e) all) v.high_near k);
      width = λ C D c w.
          wider (omega arith)
          (n.width (C + D + 2)
          (quotient_width a.lo a.hi b.lo b.hi l h C D (omega arith) d.right.ordered (omega arith) (omega (arith, v.low_near)) v.high_above (omega (arith, v.high_near)) c w));
      least = omega (arith, n.least 31 v.least);
      most = omega (arith, n.most 35 v.most);
    }

-- Fractions n/d, as the quotient of two whole numbers

module _ {n d : ℕ} {a b : Span} (s : 0 < n) (z : 0 < d) (v : Whole n a) (w : Whole d b) (nf : n < 2 ^ 64) (df : d < 2 ^ 64) where
  pub fraction_divisible : Divisible a b
  fraction_divisible =
      record {
        left = v.normal;
        right = w.normal;
        divisor = divisor w.normal w.width (omega arith);
        least = omega (arith, v.least 0 (omega arith), w.most 64 (omega arith));
        most = omega (arith, v.most 64 (omega arith));
      }

  pub fraction_quotient : {r : Span} → Quotient a b r → FractionOf n d r
  fraction_quotient q =
      record {
        normal = q.normal;
        holds = λ y.
            let one : 0 < 1 = omega arith in
            let w' : 0 < 1 * d = omega arith in
            fraction_in (n * 1) (1 * d) n d w' y (omega arith) (quotient_at n 1 d 1 one one w' z q (whole_at one v) (whole_at one w));
        width = q.width 2 2 v.width w.width;
        least = λ i j h k. omega (arith, v.least i h, w.most j k, q.least);
        most = λ i j h k. omega (arith, v.most i h, w.least j k, q.most);
      }

-- Sums

-- an end of b at a's exponent
pub moved : (m f e d : ℕ) → f ≡ e + d → m * 2 ^ f ≡ m * 2 ^ d * 2 ^ e
moved m f e d h = sym (shared m d e f (omega arith))

-- q is what stands above bit 30 of the upper end
pub sum_cuttable : (a b : Span) (t u l h q : ℕ) → Aligned a b → t ≤ b.lo → u ≤ b.hi → t ≤ u → l ≡ a.lo + t → h ≡ a.hi + u → q ≡ h / 2 ^ 31 → Cuttable l h a.e q
sum_cuttable a b t u l h q g lt lu o el eh eq =
    let bit = highest 30 q h (30 + q) (31 + q) refl (omega arith) (omega arith) (omega arith) (omega arith) (omega arith) in
    record { ordered = omega arith; least = bit.0; most = bit.1; few = omega arith; room = omega arith }

module _ (a b : Span) (t u : ℕ) (g : Aligned a b) (down : ShiftedDown b.lo (a.e - b.e) t) (up : ShiftedUp b.hi (a.e - b.e) u) where
  pub sum_ordered : t ≤ u
  sum_ordered = le_of_mul-le-mul_right {k = 2 ^ (a.e - b.e)} (omega arith) (pow_pos (a.e - b.e))

  pub sum_rounded : (r : Span) (l h : ℕ) → l ≡ a.lo + t → h ≡ a.hi + u → Rounded l h a.e r → Sum a b r
  unfolding hull
  sum_rounded r l h el eh m =
      let n : Rounded (a.lo + t) (a.hi + u) a.e r = subst₂ (λ (x y : ℕ). Rounded x y a.e r) el eh m in
      let d = a.e - b.e in
      let at : a.e ≡ b.e + d = omega arith in
      record {
        normal = n.normal;
        holds =
            sum_points _ _ _ _ _ _
            (omega (arith, n.below, moved t a.e b.e d at, mul-le-mul_right (2 ^ b.e) down.below))
            (omega (arith, n.above, moved u a.e b.e d at, mul-le-mul_right (2 ^ b.e) up.above));
        width = λ D v w.
            wider (omega arith) (n.width (D + 2) (sum_width a.lo a.hi b.lo b.hi t u (2 ^ d) D (pow_pos d) (omega arith) (omega arith) up.above (omega arith) v w));
        least_left = omega (arith, n.least 30 (omega arith));
        least_right = omega (arith, n.least 30 (omega arith));
        most = omega (arith, n.most 33 (omega arith));
      }

turned : (p q : Frac) → p ⊞ q ⊑ q ⊞ p
unfolding ◌⊞◌
turned p q = omega arith

-- the summands the other way round
pub sum_swapped : (a b r : Span) → Sum b a r → Sum a b r
sum_swapped a b r s =
    record {
      normal = s.normal;
      holds = λ p q h k.
          record { above = ⊑_trans (s.holds q p k h).above (turned q p); below = ⊑_trans (turned p q) (s.holds q p k h).below };
      width = λ D v w. s.width D w v;
      least_left = s.least_right;
      least_right = s.least_left;
      most = omega arith;
    }
