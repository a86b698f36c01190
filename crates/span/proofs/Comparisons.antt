-- The smaller of two spans, and whole numbers around one: nothing is rounded by `norm`. Assumes nothing.
use mathlib.Core.Path.{◌≡◌, refl, sym, ap}
use Prim.Native.Nat.{ℕ, ◌+◌, ◌*◌, ◌-◌, ◌^◌, ◌≤◌, ◌<◌}
use native.Mathlib.Nat.{le_trans, le_of_eq, mul-le-mul_right, mul-lt-mul_of_pos_right}
use native.Mathlib.Omega.{arith}
use native.Mathlib.Decide.{dec_le}
use lib.Pow.{pow_pos}
use Rattle.exact.specs.Fraction.{Frac, ◌⊑◌}
use Rattle.exact.specs.Bracket.{smaller}
use Rattle.exact.proofs.laws.Frac.{smaller_left, smaller_right, smaller_glb, ⊑_trans}
use Rattle.exact.specs.Holding.{◌∈◌}
use Rattle.span.specs.declared.Span.{Span}
use Rattle.span.specs.Spans.{unit, units, hull, Normal, Rel, Smaller, Floor, Ceiling}
use Rattle.span.specs.Rounding.{ShiftedDown, ShiftedUp, Ratio, Compared}
use Rattle.span.specs.Constants.{scaled_by_lem, unit_by}
use Rattle.span.proofs.Points.{smaller_low, smaller_left_high, smaller_right_high}
use Rattle.span.proofs.Widths.{shrunk, scaled_width}
use Rattle.span.proofs.Operations.{moved}

-- The smaller of two

module _ (a b r : Span) (k : ℕ) (g : Compared a b) (t : Ratio (a.e - b.e) k)
    (lo : r.lo ≡ a.lo * k - (a.lo * k - b.lo)) (hi : r.hi ≡ a.hi * k - (a.hi * k - b.hi)) (e : r.e ≡ b.e) where
  -- where a's upper end is the smaller, k is the whole ratio
  whole_ratio : a.hi * k < b.hi → k ≡ 2 ^ (a.e - b.e)
  whole_ratio l = t.exact (elim (dec_le 4 k) [ yes h ↦ absurd (never h) | no h ↦ omega arith ])
    where
      never : 4 ≤ k → ⊥
      never h = omega (arith, l, g.left.least, g.right.most, mul-le-mul_right a.hi h)

  in_order : a.lo * k ≤ a.hi * k
  in_order = mul-le-mul_right k g.left.ordered

  bounded : (m : ℕ) → m * k * 2 ^ b.e ≤ m * 2 ^ a.e
  bounded m =
      le_trans (mul-le-mul_right (2 ^ b.e) (omega (arith, mul-le-mul_right m t.below)))
      (le_of_eq (sym (moved m a.e b.e (a.e - b.e) (omega arith))))

  normal : Normal r
  normal = elim (dec_le b.hi (a.hi * k)) [
    | yes h ↦ (let o = in_order in record { least = omega arith; most = omega arith; ordered = omega arith })
    | no h ↦ (let o = in_order in let one : 1 ≤ k = omega (arith, whole_ratio (omega arith), pow_pos (a.e - b.e)) in
        record { least = omega (arith, mul-le-mul_right a.hi one); most = omega arith; ordered = omega arith })
  ]

  width : (D : ℕ) → Rel a.lo a.hi D → Rel b.lo b.hi D → Rel r.lo r.hi D
  width D v w = elim (dec_le b.lo (a.lo * k)) [
    | yes h ↦ (let same : r.lo ≡ b.lo = omega arith in rw same (shrunk b.lo b.hi r.hi D (omega arith) w))
    | no h ↦ (let same : r.lo ≡ a.lo * k = omega arith in rw same (shrunk (a.lo * k) (a.hi * k) r.hi D (omega arith) (scaled_width _ _ k D v)))
  ]

  high : (p q : Frac) → p ∈ hull a → q ∈ hull b → smaller p q ⊑ units (r.hi * 2 ^ r.e)
  unfolding hull
  high p q h j = elim (dec_le b.hi (a.hi * k)) [
    | yes l ↦ (let same : r.hi ≡ b.hi = omega arith in rw (same, e) (smaller_right_high _ _ _ (le_of_eq refl) p q j))
    | no l ↦ (let same : r.hi ≡ a.hi * 2 ^ (a.e - b.e) = omega (arith, ap (λ (n : ℕ). a.hi * n) (whole_ratio (omega arith))) in
        rw (same, e) (smaller_left_high _ _ _ (le_of_eq (moved a.hi a.e b.e (a.e - b.e) (omega arith))) p q h))
  ]

  low : (p q : Frac) → p ∈ hull a → q ∈ hull b → units (r.lo * 2 ^ r.e) ⊑ smaller p q
  unfolding hull
  low p q h j =
      rw e (smaller_low _ _ _ _ _ (le_trans (mul-le-mul_right {m = r.lo} {n = a.lo * k} (2 ^ b.e) (omega arith)) (bounded a.lo))
      (mul-le-mul_right {m = r.lo} {n = b.lo} (2 ^ b.e) (omega arith)) p q h j)

  pub smaller_rounded : Smaller a b r
  unfolding hull
  smaller_rounded =
      record { normal = normal; holds = λ p q h j. record { above = low p q h j; below = high p q h j }; width = width; exponent = omega arith }

pub smaller_swapped : (a b r : Span) → Smaller b a r → Smaller a b r
smaller_swapped a b r s =
    record {
      normal = s.normal;
      holds = λ p q h k.
          record {
            above = ⊑_trans (s.holds q p k h).above (smaller_glb (smaller_right q p) (smaller_left q p));
            below = ⊑_trans (smaller_glb (smaller_right p q) (smaller_left p q)) (s.holds q p k h).below;
          };
      width = λ D v w. s.width D w v;
      exponent = omega arith;
    }

-- Whole numbers around a span

pub floored : (a : Span) (n d : ℕ) → d + a.e ≡ 1024 → ShiftedDown a.lo d n → Floor a n
floored a n d h s =
    let one : 2 ^ d * 2 ^ a.e ≡ unit = unit_by d a.e h in
    record {
      below = omega (arith, scaled_by_lem n d a.e h, mul-le-mul_right (2 ^ a.e) s.below);
      near = near_by (n * 2 ^ d) (scaled_by_lem n d a.e h) one (omega arith);
      small = s.small;
    }
  where
    near_by : (m : ℕ) → m * 2 ^ a.e ≡ n * unit → 2 ^ d * 2 ^ a.e ≡ unit → a.lo < m + 2 ^ d → a.lo * 2 ^ a.e < n * unit + unit
    near_by m q one l = omega (arith, mul-lt-mul_of_pos_right {k = 2 ^ a.e} l (pow_pos a.e))

pub ceiled : (a : Span) (n d : ℕ) → d + a.e ≡ 1024 → ShiftedUp a.hi d n → Ceiling a n
ceiled a n d h s =
    let one : 2 ^ d * 2 ^ a.e ≡ unit = unit_by d a.e h in
    record {
      above = omega (arith, scaled_by_lem n d a.e h, mul-le-mul_right (2 ^ a.e) s.above);
      near = near_by (n * 2 ^ d) (scaled_by_lem n d a.e h) one (omega arith);
      small = s.small;
    }
  where
    near_by : (m : ℕ) → m * 2 ^ a.e ≡ n * unit → 2 ^ d * 2 ^ a.e ≡ unit → m < a.hi + 2 ^ d → n * unit < a.hi * 2 ^ a.e + unit
    near_by m q one l = omega (arith, mul-lt-mul_of_pos_right {k = 2 ^ a.e} l (pow_pos a.e))
