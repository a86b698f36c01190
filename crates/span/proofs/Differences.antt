-- What a difference hands to `norm` may be rounded, and what `norm` promises of it is what the difference promises. Assumes nothing.
use mathlib.Core.Path.{◌≡◌, refl, ap}
use Prim.Native.Nat.{ℕ, suc, ◌+◌, ◌*◌, ◌-◌, ◌^◌, ◌≤◌, ◌<◌}
use native.Mathlib.Nat.{le_trans, le_of_eq, mul-le-mul, mul-le-mul_right, le_of_mul-le-mul_right, lt_of_mul-lt-mul_right}
use native.Mathlib.Omega.{arith}
use native.Mathlib.Decide.{dec_le}
use lib.Pow.{pow_pos, pow_mono}
use Rattle.span.specs.declared.Span.{Span}
use Rattle.span.specs.Spans.{hull, Subtractable, Difference}
use Rattle.span.specs.Rounding.{Roundable, Rounded, ShiftedDown, ShiftedUp}
use Rattle.span.specs.Enclosing.{wider}
use Rattle.span.specs.Powers.{powers}
use Rattle.span.proofs.Points.{difference_points}
use Rattle.span.proofs.Widths.{difference_width}
use Rattle.span.proofs.Operations.{moved}

-- three quarters of a at most: the exponent is no greater
pub lower_exponent : (a b : Span) → Subtractable a b → b.e ≤ a.e
lower_exponent a b g = elim (dec_le b.e a.e) [ yes l ↦ l | no n ↦ absurd (never (b.e - a.e - 1) (omega arith)) ]
  where
    never : (j : ℕ) → b.e ≡ a.e + suc j → ⊥
    never j h =
        let A = 2 ^ a.e in
        let power : 2 * A ≤ 2 ^ b.e = le_trans (le_of_eq (powers 1 a.e (1 + a.e) refl)) (pow_mono (omega arith)) in
        omega (
          arith,
          g.share,
          pow_pos a.e,
          mul-le-mul g.right.least power,
          mul-le-mul_right A (le_trans g.left.ordered g.left.most),
        )

module _ (a b : Span) (g : Subtractable a b) where
  share : 4 * b.hi ≤ 3 * a.lo * 2 ^ (a.e - b.e)
  share =
      le_of_mul-le-mul_right {k = 2 ^ b.e}
      (omega (arith, g.share, moved a.lo a.e b.e (a.e - b.e) (omega (arith, lower_exponent a b g)))) (pow_pos b.e)

  -- what is taken from either end is not more than there is
  pub upper_taken : (u : ℕ) → ShiftedUp b.hi (a.e - b.e) u → u ≤ a.lo
  upper_taken u up =
      let l : u < a.lo + 1 = lt_of_mul-lt-mul_right (4 * 2 ^ (a.e - b.e)) (omega (arith, share, up.near)) in omega arith

  pub lower_taken : (t : ℕ) → ShiftedDown b.lo (a.e - b.e) t → 4 * t ≤ 3 * a.lo
  lower_taken t down = le_of_mul-le-mul_right {k = 2 ^ (a.e - b.e)} (omega (arith, share, down.below)) (pow_pos (a.e - b.e))

module _ (a b : Span) (t u : ℕ) (g : Subtractable a b) (down : ShiftedDown b.lo (a.e - b.e) t) (up : ShiftedUp b.hi (a.e - b.e) u) where
  pub taken_ordered : t ≤ u
  taken_ordered = le_of_mul-le-mul_right {k = 2 ^ (a.e - b.e)} (omega arith) (pow_pos (a.e - b.e))

  pub difference_roundable : (l h : ℕ) → l + t ≤ a.lo → h + t ≡ a.hi → Roundable l h a.e
  difference_roundable l h el eh = let k = lower_taken a b g t down in omega arith

  pub difference_rounded : (r : Span) (l h : ℕ) → l + u ≡ a.lo → h + t ≡ a.hi → Rounded l h a.e r → Difference a b r
  unfolding hull
  difference_rounded r l h el eh n =
      let d = a.e - b.e in
      let at : a.e ≡ b.e + d = omega (arith, lower_exponent a b g) in
      let A = 2 ^ a.e in
      let k = lower_taken a b g t down in
      record {
        normal = n.normal;
        holds =
            difference_points _ _ _ _ _ _
            (omega (arith, n.below, moved u a.e b.e d at, mul-le-mul_right (2 ^ b.e) up.above, ap (λ (m : ℕ). m * A) el))
            (omega (arith, n.above, moved t a.e b.e d at, mul-le-mul_right (2 ^ b.e) down.below, ap (λ (m : ℕ). m * A) eh));
        width = λ C D v w.
            wider (omega arith)
            (n.width (4 * (C + D) + 8)
            (difference_width a.lo a.hi b.lo b.hi t u l h (2 ^ d) C D (pow_pos d) (omega arith) (omega arith) el eh (omega arith) (share a b g) (omega arith) (omega arith) v w));
        least = omega (arith, n.least 28 (omega arith));
        most = omega (arith, n.most 32 (omega arith));
      }
