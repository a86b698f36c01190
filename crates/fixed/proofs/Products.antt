-- Products of intervals: the factors are rounded outward to units of 2^-28, and the least and the greatest product of their ends, divided
-- downward and upward, decide all that is promised. Assumes nothing.
use mathlib.Core.Path.{◌≡◌, ap}
use Prim.Native.Nat.{ℕ, ◌+◌, ◌*◌, ◌^◌, ◌≤◌, ◌<◌}
use native.Mathlib.Omega.{arith}
use lib.IntN.{ℤ, neg_ℤ, ◌*ℤ◌}
use lib.Pow.{pow_pos}
use Rattle.exact.specs.Fraction.{Frac, ◌⊑◌, ◌⊠◌}
use Rattle.exact.specs.Bracket.{Bracket, over_pairs}
use Rattle.exact.proofs.laws.Frac.{⊑_trans, smaller_glb, larger_lub}
use Rattle.exact.proofs.laws.Pairs.{pairs_hold, ⊠-monotone}
use Rattle.exact.specs.Holding.{◌∈◌}
use Rattle.fixed.specs.declared.Log.{Log}
use Rattle.fixed.specs.FloorAndCeiling.{up, dn, min_z}
use Rattle.fixed.specs.Logs.{fixed, fixed_z, bracket, Ordered, Narrow, Small}
use Rattle.fixed.specs.Promises.{LogFactors, LogProduct}
use Rattle.fixed.specs.ProductSteps.{Coarse, lowest_z}
use Rattle.fixed.specs.SignedLaws.{one_sided, neg_up, neg_dn, times_parts, Floor, Ceil, floor_parts, ceil_parts, AtMost, min_of, min_left, min_right}
use Rattle.fixed.proofs.Within.{within, Close, spread}

-- The least product of two ends

pub lowest_of : (P : ℤ → Type 0) (a b : Log) → P (a.lo *ℤ b.lo) → P (a.lo *ℤ b.hi) → P (a.hi *ℤ b.lo) → P (a.hi *ℤ b.hi) → P (lowest_z a b)
lowest_of P a b p q r s = min_of P (min_of P p q) (min_of P r s)

-- z ≤ x y
record Under (z x y : ℤ) : Type 0 where
  le : up z + (up x * dn y + dn x * up y) ≤ dn z + (up x * up y + dn x * dn y)

under : {z t : ℤ} (x y : ℤ) → AtMost z t → AtMost t (x *ℤ y) → Under z x y
under {z} {t} x y h k = record { le = omega (arith, h.le, k.le, times_parts x y) }

module _ (a b : Log) where
  abbrev first : ℤ
  first = min_z (a.lo *ℤ b.lo) (a.lo *ℤ b.hi)

  abbrev second : ℤ
  second = min_z (a.hi *ℤ b.lo) (a.hi *ℤ b.hi)

  low_low : Under (lowest_z a b) a.lo b.lo
  low_low = under a.lo b.lo (min_left first second) (min_left (a.lo *ℤ b.lo) (a.lo *ℤ b.hi))

  low_high : Under (lowest_z a b) a.lo b.hi
  low_high = under a.lo b.hi (min_left first second) (min_right (a.lo *ℤ b.lo) (a.lo *ℤ b.hi))

  high_low : Under (lowest_z a b) a.hi b.lo
  high_low = under a.hi b.lo (min_right first second) (min_left (a.hi *ℤ b.lo) (a.hi *ℤ b.hi))

  high_high : Under (lowest_z a b) a.hi b.hi
  high_high = under a.hi b.hi (min_right first second) (min_right (a.hi *ℤ b.lo) (a.hi *ℤ b.hi))

-- Factors in units of 2^-28

unfoldable quarter : ℤ → Frac
quarter z = record { plus = up z; minus = dn z; den = 2 ^ 28; positive = pow_pos 28 }

unfoldable box : Log → Bracket
box c = record { lo = quarter c.lo; hi = quarter c.hi }

pub record Around (a c : Log) : Type 0 where
  pub lower : Floor a.lo 4 c.lo
  pub upper : Ceil a.hi 4 c.hi

pub around : {a c : Log} → Coarse a c → Around a c
around {a} {c} g =
    record {
      lower = rw g.lower (floor_parts a.lo 4 (omega arith));
      upper = rw g.upper (ceil_parts a.hi 4 (omega arith));
    }

in_box : {a c : Log} {p : Frac} → Around a c → p ∈ bracket a → p ∈ box c
unfolding bracket fixed box quarter
in_box g m =
    record {
      above = ⊑_trans (record { cross = omega (arith, g.lower.low) }) m.above;
      below = ⊑_trans m.below (record { cross = omega (arith, g.upper.high) });
    }

-- the result's ends beside a product of the factors' ends

end_below : (r l x y : ℤ) → Floor l (2 ^ 26) r → Under l x y → fixed_z r ⊑ quarter x ⊠ quarter y
unfolding fixed quarter ◌⊠◌
end_below r l x y f h = record { cross = omega (arith, f.low, h.le) }

end_above : (r q n x y : ℤ) → r ≡ neg_ℤ q → Floor n (2 ^ 26) q → Under n (neg_ℤ x) y → quarter x ⊠ quarter y ⊑ fixed_z r
unfolding fixed quarter ◌⊠◌
end_above r q n x y e f h =
    record {
      cross =
          rw e (omega (
            arith,
            f.low,
            h.le,
            neg_up q,
            neg_dn q,
            ap (λ i. i * up y) (neg_up x),
            ap (λ i. i * dn y) (neg_up x),
            ap (λ i. i * up y) (neg_dn x),
            ap (λ i. i * dn y) (neg_dn x),
          ));
    }

-- How far apart and how large the products of ends are, in sixteenths: the factors' ends times 4

-- -z' ≤ z + S / 16
record Apart (S : ℕ) (z z' : ℤ) : Type 0 where
  le : 16 * (dn z + dn z') ≤ 16 * (up z + up z') + S

record Sized (S : ℕ) (z : ℤ) : Type 0 where
  plus : 16 * up z ≤ 16 * dn z + S
  minus : 16 * dn z ≤ 16 * up z + S

abbrev Near : ℕ → ℕ → ℤ → ℤ → Type 0
Near m v x X = Close m v (up x * 4) (dn x * 4) (up X * 4) (dn X * 4)

-- x y and (-X) Y
apart : (m v w : ℕ) (x X y Y : ℤ) → Near m v X x → Near m w Y y → Apart (m * (v + w)) (x *ℤ y) (neg_ℤ X *ℤ Y)
apart m v w x X y Y h k =
    record {
      le =
          omega (
            arith,
            times_parts x y,
            times_parts (neg_ℤ X) Y,
            ap (λ i. i * up Y) (neg_up X),
            ap (λ i. i * dn Y) (neg_up X),
            ap (λ i. i * up Y) (neg_dn X),
            ap (λ i. i * dn Y) (neg_dn X),
            spread m v w (up X * 4) (dn X * 4) (up x * 4) (dn x * 4) (up Y * 4) (dn Y * 4) (up y * 4) (dn y * 4) h k,
          );
    }

record Bounded (m : ℕ) (x : ℤ) : Type 0 where
  plus : up x * 4 ≤ dn x * 4 + m
  minus : dn x * 4 ≤ up x * 4 + m

bounded_neg : {m : ℕ} (x : ℤ) → Bounded m x → Bounded m (neg_ℤ x)
bounded_neg x h = record { plus = omega (arith, h.minus, neg_up x, neg_dn x); minus = omega (arith, h.plus, neg_up x, neg_dn x) }

sized : (m : ℕ) (x y : ℤ) → Bounded m x → Bounded m y → Sized (m * m) (x *ℤ y)
sized m x y h k =
    record {
      plus = omega (arith, times_parts x y, within (up x * 4) (dn x * 4) (up y * 4) (dn y * 4) m m h.plus h.minus k.plus k.minus);
      minus = omega (arith, times_parts x y, within (up x * 4) (dn x * 4) (dn y * 4) (up y * 4) m m h.plus h.minus k.minus k.plus);
    }

-- the ends of a factor
module _ {a c : Log} (g : Around a c) (M : ℕ) (s : Small a M) where
  bounded_lo : Bounded (M + 4) c.lo
  bounded_lo = record { plus = omega (arith, g.lower.low, s.lo_up); minus = omega (arith, g.lower.high, s.lo_dn) }

  bounded_hi : Bounded (M + 4) c.hi
  bounded_hi = record { plus = omega (arith, g.upper.low, s.hi_up); minus = omega (arith, g.upper.high, s.hi_dn) }

  module _ (C : ℕ) (v : Ordered a) (w : Narrow a C) where
    facts : up c.hi * 4 + dn c.lo * 4 ≤ up c.lo * 4 + dn c.hi * 4 + (C + 8)
    facts = omega (arith, g.lower.high, g.upper.low, w.narrow)

    order : up c.lo * 4 + dn c.hi * 4 ≤ up c.hi * 4 + dn c.lo * 4
    order = omega (arith, g.lower.low, g.upper.high, v.ordered)

    near_ll : Near (M + 4) (C + 8) c.lo c.lo
    near_ll =
        let b = bounded_lo in
        record { plus = b.plus; minus = b.minus; Plus = b.plus; Minus = b.minus; after = omega arith; before = omega arith }

    near_lh : Near (M + 4) (C + 8) c.lo c.hi
    near_lh =
        let b = bounded_lo in
        let t = bounded_hi in
        record { plus = b.plus; minus = b.minus; Plus = t.plus; Minus = t.minus; after = omega (arith, order); before = omega (arith, facts) }

    near_hl : Near (M + 4) (C + 8) c.hi c.lo
    near_hl =
        let b = bounded_lo in
        let t = bounded_hi in
        record { plus = t.plus; minus = t.minus; Plus = b.plus; Minus = b.minus; after = omega (arith, facts); before = omega (arith, order) }

    near_hh : Near (M + 4) (C + 8) c.hi c.hi
    near_hh =
        let t = bounded_hi in
        record { plus = t.plus; minus = t.minus; Plus = t.plus; Minus = t.minus; after = omega arith; before = omega arith }

-- -c
abbrev pub mirrored : Log → Log
mirrored c = record { lo = neg_ℤ c.hi; hi = neg_ℤ c.lo }

-- The law

module _ (a b c d r : Log) (f : LogFactors a b) (g : Around a c) (h : Around b d) (q : ℤ) (e : Floor (lowest_z c d) (2 ^ 26) r.lo)
    (k : Floor (lowest_z (mirrored c) d) (2 ^ 26) q) (t : r.hi ≡ neg_ℤ q) where
  holds : (x y : Frac) → x ∈ bracket a → y ∈ bracket b → x ⊠ y ∈ bracket r
  unfolding bracket over_pairs box
  holds x y i j =
      let m = pairs_hold ⊠-monotone (in_box g i) (in_box h j) in
      record {
        above =
            ⊑_trans
            (smaller_glb
            (smaller_glb (end_below _ _ c.lo d.lo e (low_low c d)) (end_below _ _ c.lo d.hi e (low_high c d)))
            (smaller_glb (end_below _ _ c.hi d.lo e (high_low c d)) (end_below _ _ c.hi d.hi e (high_high c d))))
            m.above;
        below =
            ⊑_trans m.below
            (larger_lub
            (larger_lub (end_above _ q _ c.lo d.lo t k (high_low (mirrored c) d)) (end_above _ q _ c.lo d.hi t k (high_high (mirrored c) d)))
            (larger_lub (end_above _ q _ c.hi d.lo t k (low_low (mirrored c) d)) (end_above _ q _ c.hi d.hi t k (low_high (mirrored c) d))));
      }

  -- the upper end's parts
  hi_up : up r.hi ≡ dn q
  hi_up = rw t (neg_up q)

  hi_dn : dn r.hi ≡ up q
  hi_dn = rw t (neg_dn q)

  module _ (M C D W : ℕ) (sa : Small a M) (sb : Small b M) (wa : Narrow a C) (wb : Narrow b D) (l : (M + 4) * (C + D + 16) ≤ W * 2 ^ 30) where
    abbrev S : ℕ
    S = (M + 4) * (C + 8 + (D + 8))

    row : (x y : ℤ) → Near (M + 4) (C + 8) c.hi x → Near (M + 4) (C + 8) c.lo x → Near (M + 4) (D + 8) d.lo y → Near (M + 4) (D + 8) d.hi y
        → Apart S (x *ℤ y) (lowest_z (mirrored c) d)
    row x y p o u w =
        lowest_of (λ (z : ℤ). Apart S (x *ℤ y) z) (mirrored c) d
        (apart (M + 4) (C + 8) (D + 8) x c.hi y d.lo p u)
        (apart (M + 4) (C + 8) (D + 8) x c.hi y d.hi p w)
        (apart (M + 4) (C + 8) (D + 8) x c.lo y d.lo o u)
        (apart (M + 4) (C + 8) (D + 8) x c.lo y d.hi o w)

    whole : Apart S (lowest_z c d) (lowest_z (mirrored c) d)
    whole =
        let va = f.left in
        let vb = f.right in
        lowest_of (λ (z : ℤ). Apart S z (lowest_z (mirrored c) d)) c d
        (row c.lo d.lo (near_hl g M sa C va wa) (near_ll g M sa C va wa) (near_ll h M sb D vb wb) (near_hl h M sb D vb wb))
        (row c.lo d.hi (near_hl g M sa C va wa) (near_ll g M sa C va wa) (near_lh h M sb D vb wb) (near_hh h M sb D vb wb))
        (row c.hi d.lo (near_hh g M sa C va wa) (near_lh g M sa C va wa) (near_ll h M sb D vb wb) (near_hl h M sb D vb wb))
        (row c.hi d.hi (near_hh g M sa C va wa) (near_lh g M sa C va wa) (near_lh h M sb D vb wb) (near_hh h M sb D vb wb))

    near : up r.hi + dn r.lo < up r.lo + dn r.hi + W + 2
    near = omega (arith, whole.le, e.high, k.high, hi_up, hi_dn, l)

  ordered : Ordered r
  ordered =
      let u = low_low c d in
      let w = high_low (mirrored c) d in
      record {
        ordered =
            omega (
              arith,
              e.low,
              k.low,
              hi_up,
              hi_dn,
              u.le,
              w.le,
              ap (λ i. i * up d.lo) (neg_up c.lo),
              ap (λ i. i * dn d.lo) (neg_up c.lo),
              ap (λ i. i * up d.lo) (neg_dn c.lo),
              ap (λ i. i * dn d.lo) (neg_dn c.lo),
            );
      }

  module _ (M N : ℕ) (sa : Small a M) (sb : Small b M) (l : (M + 4) * (M + 4) ≤ N * 2 ^ 30) where
    abbrev K : ℕ
    K = (M + 4) * (M + 4)

    least_sized : Sized K (lowest_z c d)
    least_sized =
        let cl = bounded_lo g M sa in
        let ch = bounded_hi g M sa in
        let dl = bounded_lo h M sb in
        let dh = bounded_hi h M sb in
        lowest_of (λ (z : ℤ). Sized K z) c d
        (sized (M + 4) c.lo d.lo cl dl)
        (sized (M + 4) c.lo d.hi cl dh)
        (sized (M + 4) c.hi d.lo ch dl)
        (sized (M + 4) c.hi d.hi ch dh)

    greatest_sized : Sized K (lowest_z (mirrored c) d)
    greatest_sized =
        let cl = bounded_neg c.hi (bounded_hi g M sa) in
        let ch = bounded_neg c.lo (bounded_lo g M sa) in
        let dl = bounded_lo h M sb in
        let dh = bounded_hi h M sb in
        lowest_of (λ (z : ℤ). Sized K z) (mirrored c) d
        (sized (M + 4) (neg_ℤ c.hi) d.lo cl dl)
        (sized (M + 4) (neg_ℤ c.hi) d.hi cl dh)
        (sized (M + 4) (neg_ℤ c.lo) d.lo ch dl)
        (sized (M + 4) (neg_ℤ c.lo) d.hi ch dh)

    small : Small r N
    small =
        let u = least_sized in
        let w = greatest_sized in
        let i = one_sided r.lo {N = N} (omega (arith, e.low, u.plus, l)) (omega (arith, e.high, u.minus, l)) in
        let j = one_sided q {N = N} (omega (arith, k.low, w.plus, l)) (omega (arith, k.high, w.minus, l)) in
        record { lo_up = i.0; lo_dn = i.1; hi_up = omega (arith, j, hi_up); hi_dn = omega (arith, j, hi_dn) }

  pub law : LogProduct a b r
  law = record { ordered = ordered; holds = holds; width = λ M C D W sa sb wa wb l. record { narrow = omega (arith, near M C D W sa sb wa wb l) }; small = small }
