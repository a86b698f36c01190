-- ln at a point: from k ln 2 and the series to the N-th ends of the theory, on both sides of 1. Assumes nothing.
use mathlib.Core.Path.{◌≡◌, refl, ap, sym, subst, ◌∙◌}
use Prim.Native.Nat.{ℕ, ◌+◌, ◌-◌, ◌*◌, ◌/◌, ◌^◌, ◌≤◌, ◌<◌}
use native.Mathlib.Nat.{add_comm, mul-le-mul, mul-le-mul_right, mul-le-mul_left, le_of_mul-le-mul_right}
use native.Mathlib.Decide.{dec_le}
use native.Mathlib.Omega.{arith}
use Rattle.exact.specs.Fraction.{Ratio, ◌≼◌, ◌≈◌, Above0, whole, ◌⊕◌, ◌⊗◌, ◌⊖◌, recip, ◌⊑◌, Positive, of_ratio, neg, magnitude, one_f}
use Rattle.exact.proofs.laws.Ratio.{≼_refl, ≼_trans, to≼, from≼, ⊕-mono, above_mono}
use Rattle.exact.specs.Series.{gap, argument}
use Rattle.exact.specs.laws.Positive.{two_pow_pos}
use Rattle.exact.proofs.laws.Octaves.{suc_pow}
use Rattle.exact.proofs.laws.LnSeries.{gap_anti, series_lower_mono, series_upper_mono}
use Rattle.exact.specs.laws.Divisors.{gap_argument, magnitude_above, one_magnitude, one_recip}
use Rattle.exact.specs.LnExp.{ln_lower, ln_upper}
use Rattle.exact.specs.laws.Decide.{dec_f}
use Rattle.exact.specs.laws.Fixed.{Lower, Upper}
use Rattle.exact.proofs.laws.Fixed.{lower_sum, upper_sum}
use Rattle.exact.proofs.laws.Frac.{⊑_trans}
use Rattle.exact.proofs.laws.Points.{ln_low_above, ln_high_above, ln_low_below, ln_high_below}
use Rattle.span.specs.Spans.{unit, unit_positive, units}
use Rattle.span.specs.Unary.{LnWithin}
use Rattle.span.specs.Powers.{powers}
use Rattle.fixed.specs.Logs.{fixed}
use Rattle.enclosure.specs.LogSteps.{ratio, Series, OctavesOf, Octaves, Sided, biased, biased_pair, Point, LnPoint}
use Rattle.enclosure.proofs.OddSeries.{lower_to, upper_to, more}
use Rattle.enclosure.proofs.Octave.{Ln2, ln_low, ln_high, one_high, none_low, ln2_low, ln2_high, times_low, times_high}

-- the two summands
pub octaves_of : (C k a b s : ℕ) → k ≤ 1023 → C ≤ 3121657384082680 → Ln2 C → Series a b s → Octaves k a b (k * C / 2 ^ 22 + s)
octaves_of C k a b s l m c h =
    record {
      below = λ z n q. lower_sum (times_low C k _ (ln2_low c n q)) (h.below z n q);
      above = λ z n q g. more (omega arith) (upper_sum (times_high C k _ (omega arith) (ln2_high c n q)) (h.above z n q g));
      small = omega (arith, h.small, small);
    }
  where
    small : k * C / 2 ^ 22 ≤ k * 744261118
    small = let p : k * C ≤ k * 3121657384082680 = mul-le-mul_left k m in omega arith

-- (f - 1)/(f + 1) for f = p/q
argument_is : (p q : ℕ) (y : 0 < q) (z : 0 < p + q) → argument (ratio p q y) ≈ ratio (p - q) (p + q) z
unfolding argument ratio whole recip ◌⊖◌ ◌⊗◌ ◌⊕◌
argument_is p q y z = let e : p * 1 - 1 * q ≡ p - q = omega arith in record { cross = rw e (omega arith) }

-- t = 2^k p/q, with 1 ≤ p/q ≤ 2
module _ (t : Ratio) (p q k r : ℕ) (y : 0 < q) (l : q ≤ p) (h : p ≤ 2 * q) (o : whole 1 ≼ t) (e : t.num * q ≡ 2 ^ k * p * t.den) (d : Octaves k (p - q) (p + q) r) where
  f_least : whole 1 ≼ ratio p q y
  unfolding whole ratio
  f_least = record { cross = omega arith }

  f_most : ratio p q y ≼ whole 2
  unfolding whole ratio
  f_most = record { cross = omega arith }

  f_splits : t ≈ whole (2 ^ k) ⊗ ratio p q y
  unfolding whole ratio ◌⊗◌
  f_splits = record { cross = omega (arith, e) }

  f_above : Above0 (ratio p q y)
  unfolding ratio
  f_above = record { above = omega arith }

  pub point_low : (n : ℕ) → 20 ≤ n → Lower (2 ^ 30) r (ln_lower t n)
  point_low n b =
      let z : 0 < p + q = omega arith in
      lower_to
      (≼_trans (⊕-mono (≼_refl _) (series_lower_mono (from≼ (argument_is p q y z)) n)) (ln_low t (ratio p q y) k o f_least f_most f_splits n))
      (d.below z n b)

  pub point_high : (v : whole 1 ≼ t) (n : ℕ) → 20 ≤ n → Upper (2 ^ 30) (r + 8) (ln_upper t v n)
  point_high v n b =
      let z : 0 < p + q = omega arith in
      let g : Above0 (gap (argument (ratio p q y))) = gap_argument _ f_above in
      let i : Above0 (gap (ratio (p - q) (p + q) z)) = above_mono g (gap_anti (from≼ (argument_is p q y z)) g) in
      upper_to
      (≼_trans (ln_high t (ratio p q y) k o f_least f_most f_splits v n g) (⊕-mono (≼_refl _) (series_upper_mono (to≼ (argument_is p q y z)) n g i)))
      (d.above z n b i)

-- In words: 2^40 stands for 0

lower_fixed : {r : ℕ} {x : Ratio} → Lower (2 ^ 30) r x → biased (2 ^ 40 + r) ⊑ of_ratio x
unfolding biased fixed of_ratio
lower_fixed h = record { cross = omega (arith, h.bound) }

upper_fixed : (r : ℕ) {x : Ratio} → Upper (2 ^ 30) (r + 8) x → of_ratio x ⊑ biased (2 ^ 40 + r + 8)
unfolding biased fixed of_ratio
upper_fixed r h = record { cross = omega (arith, h.bound) }

lower_negated : (r h : ℕ) {x : Ratio} → h + (r + 8) ≡ 2 ^ 40 → Upper (2 ^ 30) (r + 8) x → biased h ⊑ neg (of_ratio x)
unfolding biased fixed of_ratio neg
lower_negated r h {x} e u = record { cross = omega (arith, u.bound, ap (λ (i : ℕ). i * x.den) e) }

upper_negated : (r h : ℕ) {x : Ratio} → h + (r + 8) ≡ 2 ^ 40 → Lower (2 ^ 30) r x → neg (of_ratio x) ⊑ biased (h + 8)
unfolding biased fixed of_ratio neg
upper_negated r h {x} e u = record { cross = omega (arith, u.bound, ap (λ (i : ℕ). i * x.den) e) }

-- from 1 up
from_one : (v m k : ℕ) → 2 ^ 30 ≤ m → v * 2 ^ 30 ≡ 2 ^ k * m * unit → one_f ⊑ units v
unfolding one_f of_ratio whole units
from_one v m k l e =
    let s : unit ≤ v = le_of_mul-le-mul_right {k = 2 ^ 30} (omega (arith, e, mul-le-mul_right unit (mul-le-mul (two_pow_pos k) l))) (omega arith) in
    record { cross = omega arith }

split_above : (v m k : ℕ) → v * 2 ^ 30 ≡ 2 ^ k * m * unit → (magnitude (units v)).num * 2 ^ 30 ≡ 2 ^ k * m * (magnitude (units v)).den
unfolding magnitude units
split_above v m k e = let s : v - 0 ≡ v = omega arith in rw s e

pub above_one : (v m k r : ℕ) → 2 ^ 30 ≤ m → m ≤ 2 ^ 31 → v * 2 ^ 30 ≡ 2 ^ k * m * unit → Octaves k (m - 2 ^ 30) (m + 2 ^ 30) r
    → (z : Positive (units v)) (n : ℕ) → 20 ≤ n → LnWithin (units v) z n (biased_pair (2 ^ 40 + r) (2 ^ 40 + r + 8))
unfolding biased_pair
above_one v m k r l h e d z n b =
    let o = from_one v m k l e in
    let p = one_magnitude o in
    record {
      above = ⊑_trans (lower_fixed (point_low _ m (2 ^ 30) k r (omega arith) l (omega arith) p (split_above v m k e) d n b)) (ln_low_above (units v) o n z);
      below = ⊑_trans (ln_high_above (units v) o n z) (upper_fixed r (point_high _ m (2 ^ 30) k r (omega arith) l (omega arith) p (split_above v m k e) d p n b));
    }

-- below 1
split_below : (v m k : ℕ) (g : Above0 (magnitude (units v))) → unit * m ≡ 2 ^ k * 2 ^ 31 * v → (recip (magnitude (units v)) g).num * m ≡ 2 ^ k * 2 ^ 31 * (recip (magnitude (units v)) g).den
unfolding recip magnitude units
split_below v m k g e = let s : v - 0 ≡ v = omega arith in rw s e

-- at 1 itself nothing is left: no octave, and u = 0
module _ (v m k : ℕ) (u : m ≤ 2 ^ 31) (e : unit * m ≡ 2 ^ k * 2 ^ 31 * v) (i : one_f ⊑ units v) where
  v_least : unit ≤ v
  unfolding one_f of_ratio whole units
  v_least = omega (arith, i.cross)

  m_least : 2 ^ k * 2 ^ 31 ≤ m
  m_least = le_of_mul-le-mul_right {k = unit} (omega (arith, e, mul-le-mul_left (2 ^ k * 2 ^ 31) v_least)) unit_positive

  no_octave : k ≡ 0
  no_octave = omega (arith, m_least, suc_pow k)

  no_rest : 2 ^ 31 - m ≡ 0
  no_rest = omega (arith, m_least, two_pow_pos k)

  v_most : v ≤ unit
  v_most = le_of_mul-le-mul_right {k = 2 ^ 31} (omega (arith, e, m_least, two_pow_pos k, mul-le-mul_right unit u, mul-le-mul_right (2 ^ 31 * v) (two_pow_pos k))) (omega arith)

  not_above_lem : magnitude (units v) ≼ whole 1
  unfolding magnitude units whole
  not_above_lem = record { cross = omega (arith, v_most) }

nothing_here : (b : ℕ) (z : 0 < b) → ratio 0 b z ≼ whole 0
unfolding ratio whole
nothing_here b z = record { cross = omega arith }

nothing_low : {r : ℕ} → Lower (2 ^ 30) r (whole 0) → r ≡ 0
unfolding whole
nothing_low h = omega (arith, h.bound)

nothing_left : {k a b r : ℕ} → 0 < b → k ≡ 0 → a ≡ 0 → Octaves k a b r → r ≡ 0
nothing_left {k} {a} {b} {r} z e f d =
    let o : Octaves 0 0 b r = subst (λ (i : ℕ). Octaves 0 i b r) f (subst (λ (i : ℕ). Octaves i a b r) e d) in
    nothing_low (lower_to (none_low _ (nothing_here b z) 20) (o.below z 20 (omega arith)))

lower_none : (r h : ℕ) (x : Ratio) → h + (r + 8) ≡ 2 ^ 40 → biased h ⊑ of_ratio x
unfolding biased fixed of_ratio
lower_none r h x e = let l : h ≤ 2 ^ 40 = omega arith in record { cross = omega (arith, mul-le-mul_right x.den l) }

upper_none : (r h : ℕ) {x : Ratio} → h + (r + 8) ≡ 2 ^ 40 → r ≡ 0 → x ≼ whole 0 → of_ratio x ⊑ biased (h + 8)
unfolding biased fixed of_ratio whole
upper_none r h {x} e q l = let s : h + 8 ≡ 2 ^ 40 = omega arith in rw s (record { cross = omega (arith, l.cross) })

pub below_one : (v m k r h : ℕ) → 2 ^ 30 ≤ m → m ≤ 2 ^ 31 → unit * m ≡ 2 ^ k * 2 ^ 31 * v → h + (r + 8) ≡ 2 ^ 40
    → Octaves k (2 ^ 31 - m) (2 ^ 31 + m) r → (z : Positive (units v)) (n : ℕ) → 20 ≤ n → LnWithin (units v) z n (biased_pair h (h + 8))
unfolding biased_pair
below_one v m k r h l u e q d z n b = go (dec_f one_f (units v))
  where
    go : Dec (one_f ⊑ units v) → LnWithin (units v) z n (biased_pair h (h + 8))
    go (yes i) =
        let none : r ≡ 0 = nothing_left (omega arith) (no_octave v m k u e i) (no_rest v m k u e i) d in
        record {
          above = ⊑_trans (lower_none r h _ q) (ln_low_above (units v) i n z);
          below = ⊑_trans (ln_high_above (units v) i n z) (upper_none r h q none (one_high _ (not_above_lem v m k u e i) (one_magnitude i) n));
        }
    go (no f) =
        let a = magnitude_above (units v) z in
        let o = one_recip (units v) a f in
        let c = split_below v m k a e in
        record {
          above = ⊑_trans (lower_negated r h q (point_high _ (2 ^ 31) m k r (omega arith) u (omega arith) o c d o n b)) (ln_low_below (units v) f a o n z);
          below = ⊑_trans (ln_high_below (units v) f a o n z) (upper_negated r h q (point_low _ (2 ^ 31) m k r (omega arith) u (omega arith) o c d n b));
        }

-- The exponents

unit_above : (k e : ℕ) → e ≡ k + 994 → 2 ^ e * 2 ^ 30 ≡ 2 ^ k * unit
unfolding unit
unit_above k e h = powers e 30 (k + 1024) (omega arith) ∙ sym (powers k 1024 (k + 1024) refl)

unit_below : (k e : ℕ) → k + e ≡ 993 → 2 ^ k * 2 ^ 31 * 2 ^ e ≡ unit
unfolding unit
unit_below k e h = ap (λ (i : ℕ). i * 2 ^ e) (powers k 31 (k + 31) refl) ∙ powers (k + 31) e 1024 (omega arith)

pub ln_above : (m e r : ℕ) → Point m e → 994 ≤ e → Octaves (e - 994) (m - 2 ^ 30) (m + 2 ^ 30) r → LnPoint m e (2 ^ 40 + r)
ln_above m e r p l d =
    let k = e - 994 in
    let s : m * 2 ^ e * 2 ^ 30 ≡ 2 ^ k * m * unit = omega (arith, ap (λ (i : ℕ). m * i) (unit_above k e (omega arith))) in
    record { ends = above_one (m * 2 ^ e) m k r p.least p.most s d; least = λ j q. omega (arith, d.small); most = λ j q. omega (arith, d.small) }

pub ln_below : (m e r : ℕ) → Point m e → e < 994 → Octaves (993 - e) (2 ^ 31 - m) (2 ^ 31 + m) r → LnPoint m e (2 ^ 40 - (r + 8))
ln_below m e r p l d =
    let k = 993 - e in
    let s : unit * m ≡ 2 ^ k * 2 ^ 31 * (m * 2 ^ e) = omega (arith, ap (λ (i : ℕ). i * m) (unit_below k e (omega arith))) in
    record {
      ends = below_one (m * 2 ^ e) m k r (2 ^ 40 - (r + 8)) p.least p.most s (omega (arith, d.small)) d;
      least = λ j q. omega (arith, d.small);
      most = λ j q. omega (arith, d.small);
    }

-- Both sides in one

pub side_most : {e f : ℕ} → Sided e (2 ^ 30) (2 ^ 31) f → f ≤ 2 ^ 31
side_most {e} {f} u = go (dec_le 994 e)
  where
    go : Dec (994 ≤ e) → f ≤ 2 ^ 31
    go (yes l) = omega (arith, u.above l)
    go (no l) = omega (arith, u.below (omega arith))

module _ {m e k a f : ℕ} (p : Point m e) (s : Sided e (e - 994) (993 - e) k) (t : Sided e (m - 2 ^ 30) (2 ^ 31 - m) a) (u : Sided e (2 ^ 30) (2 ^ 31) f) where
  pub sides_fit : OctavesOf k a (f + m)
  sides_fit = go (dec_le 994 e)
    where
      go : Dec (994 ≤ e) → OctavesOf k a (f + m)
      go (yes l) = rw (s.above l, t.above l, u.above l) (record { series = record { some = omega arith; fits = omega (arith, p.most); third = omega (arith, p.least, p.most) }; most = omega (arith, p.exponent) })
      go (no l) =
          let g : e < 994 = omega arith in
          rw (s.below g, t.below g, u.below g) (record { series = record { some = omega arith; fits = omega (arith, p.most); third = omega (arith, p.least, p.most) }; most = omega arith })

  pub sides_small : {r : ℕ} → Octaves k a (f + m) r → r + 8 ≤ 2 ^ 40
  sides_small d = omega (arith, d.small, sides_fit.most)

  pub both_sides : {r h : ℕ} → Octaves k a (f + m) r → Sided e (2 ^ 40 + r) (2 ^ 40 - (r + 8)) h → LnPoint m e h
  both_sides {r} {h} d v = go (dec_le 994 e)
    where
      go : Dec (994 ≤ e) → LnPoint m e h
      go (yes l) = rw (v.above l) (ln_above m e r p l (subst (λ (i : ℕ). Octaves (e - 994) (m - 2 ^ 30) i r) (add_comm (2 ^ 30) m) (rw (s.above l, t.above l, u.above l) at d)))
      go (no l) =
          let g : e < 994 = omega arith in
          rw (v.below g) (ln_below m e r p g (rw (s.below g, t.below g, u.below g) at d))
