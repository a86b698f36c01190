-- How far the lower ends of e^ and ln move with their argument, with no subtraction: where v ≤ u + d,
-- S(v) ≤ S(u) + d S(v) for the sum of e^, and L(v) ≤ L(u) + d/u for the sum of ln.
-- Assumes nothing.
use Prim.Native.Nat.{ℕ, zero, suc, ◌+◌, ◌*◌, ◌-◌, ◌≤◌, ◌<◌}
use Rattle.std.specs.Prelude.{◌≡◌}
use Rattle.std.proofs.Common.{ap, mul-pos, mul-le-mul_right, arith}
use Rattle.exact.specs.Fraction.{Ratio, ◌≼◌, ◌≈◌, Above0, whole, ◌⊕◌, ◌⊗◌, ◌⊖◌, recip, power, sum}
use Rattle.exact.specs.Series.{factorial, exp_term, exp_lower, argument, one_over, even, odd, ln_term, gap, series_lower}
use Rattle.exact.specs.laws.Divisors.{gap_argument}
use Rattle.exact.proofs.laws.Ln.{argument_mono}
use Rattle.exact.proofs.laws.LnSeries.{gap_anti}
use Rattle.exact.specs.laws.Positive.{factorial_pos, odd_pos}
use Rattle.exact.proofs.laws.Ratio.{exchange, ≼_refl, ≼_trans, to≼, from≼, ⊕-mono, ⊗_mono, ⊕-upper, distrib, recip_anti, above_mono}
use Rattle.exact.proofs.laws.Sums.{after, lower_upper}

-- Powers: v^(j+1) ≤ u^(j+1) + (j+1) d v^j, where u ≤ v ≤ u + d

pub split : (u d Q : Ratio) → (u ⊕ d) ⊗ Q ≈ u ⊗ Q ⊕ d ⊗ Q
unfolding ◌⊕◌ ◌⊗◌
split u d Q = omega arith

power_first : (u v d : Ratio) → v ≼ u ⊕ d → v ⊗ whole 1 ≼ u ⊗ whole 1 ⊕ whole 1 ⊗ d ⊗ whole 1
unfolding whole ◌⊕◌ ◌⊗◌
power_first u v d h = omega arith

-- u (U + c P) + d Q ≤ u U + (j + 2) d Q, for c = (j + 1) d and u P ≤ Q
pub gather : (j : ℕ) (u d U P : Ratio) → u ⊗ (U ⊕ whole (suc j) ⊗ d ⊗ P) ≈ u ⊗ U ⊕ whole (suc j) ⊗ d ⊗ (u ⊗ P)
unfolding whole ◌⊕◌ ◌⊗◌
gather j u d U P = omega arith

pub collect : (j : ℕ) (d U Q : Ratio) → U ⊕ whole (suc j) ⊗ d ⊗ Q ⊕ d ⊗ Q ≈ U ⊕ whole (suc (suc j)) ⊗ d ⊗ Q
unfolding whole ◌⊕◌ ◌⊗◌
collect j d U Q = omega arith

-- (U + (j+1) d P) / ((j+1) f) = U / ((j+1) f) + d (P / f)
term_split : (j f : ℕ) (p : 0 < f) (q : 0 < suc j * f) (U d P : Ratio)
    → (U ⊕ whole (suc j) ⊗ d ⊗ P) ⊗ record { num = 1; den = suc j * f; positive = q }
    ≈ U ⊗ record { num = 1; den = suc j * f; positive = q } ⊕ d ⊗ (P ⊗ record { num = 1; den = f; positive = p })
unfolding whole ◌⊕◌ ◌⊗◌
term_split j f p q U d P = omega arith

-- (A + d B) + (C + d D) = (A + C) + d (B + D)
interleave : (A B C D d : Ratio) → A ⊕ d ⊗ B ⊕ (C ⊕ d ⊗ D) ≼ A ⊕ C ⊕ d ⊗ (B ⊕ D)
interleave A B C D d = ≼_trans (to≼ (exchange A (d ⊗ B) C (d ⊗ D))) (⊕-mono (≼_refl (A ⊕ C)) (from≼ (distrib d B D)))

-- (U + c d P) / c = U / c + d P
pub odd_split : (c : ℕ) (p : 0 < c) (U d P : Ratio) → (U ⊕ whole c ⊗ d ⊗ P) ⊗ one_over c p ≈ U ⊗ one_over c p ⊕ d ⊗ P
unfolding one_over whole ◌⊕◌ ◌⊗◌
odd_split c p U d P = omega arith

-- the sum of v^(2j) is at most 1/(1 - v²)
geometric_covers : (v w : Ratio) (g : Above0 (gap v)) → w ⊕ v ⊗ (v ⊗ w) ⊗ recip (gap v) g ≼ w ⊗ recip (gap v) g
unfolding gap whole recip ◌⊖◌ ◌⊗◌ ◌⊕◌
geometric_covers v w g =
    let e : (1 * (v.den * v.den) - v.num * v.num * 1) + v.num * v.num ≡ v.den * v.den = omega arith in
    omega (arith, ap (λ i. i * (w.num * (w.den * w.den) * (v.den * v.den) * (1 * (v.den * v.den) - v.num * v.num * 1))) e)

unit : (x : Ratio) → whole 0 ⊕ whole 1 ⊗ x ≼ x
unfolding whole ◌⊕◌ ◌⊗◌
unit x = omega arith

pub geometric : (v : Ratio) (g : Above0 (gap v)) (n : ℕ) → sum (λ j. power v (even j)) n ≼ recip (gap v) g
unfolding even power sum
geometric v g n =
    ≼_trans
    (lower_upper (λ j. power v (even j)) (λ j. power v (even (after 0 j)) ⊗ recip (gap v) g) 0
    (λ j. geometric_covers v (power v (even (after 0 j))) g) n)
    (unit (recip (gap v) g))

module _ (u v d : Ratio) (l : u ≼ v) (h : v ≼ u ⊕ d) where
  pub power_moves : (j : ℕ) → power v (suc j) ≼ power u (suc j) ⊕ whole (suc j) ⊗ d ⊗ power v j
  unfolding power
  power_moves zero = power_first u v d h
  power_moves (suc j) =
      ≼_trans (⊗_mono h (≼_refl (v ⊗ power v j)))
      (≼_trans (to≼ (split u d (v ⊗ power v j)))
      (≼_trans (⊕-mono (≼_trans (⊗_mono (≼_refl u) (power_moves j)) (to≼ (gather j u d (u ⊗ power u j) (power v j)))) (≼_refl _))
      (≼_trans (⊕-mono (⊕-mono (≼_refl _) (⊗_mono (≼_refl _) (⊗_mono l (≼_refl (power v j))))) (≼_refl _))
      (to≼ (collect j d (u ⊗ (u ⊗ power u j)) (v ⊗ power v j))))))

  -- e^

  exp_term_moves : (j : ℕ) → exp_term v (suc j) ≼ exp_term u (suc j) ⊕ d ⊗ exp_term v j
  unfolding exp_term factorial
  exp_term_moves j =
      ≼_trans (⊗_mono (power_moves j) (≼_refl _))
      (to≼ (term_split j (factorial j) (factorial_pos j) (factorial_pos (suc j)) (power u (suc j)) d (power v j)))

  -- S_(N+1)(v) ≤ S_(N+1)(u) + d S_N(v)
  pub exp_moves : (n : ℕ) → exp_lower v (suc n) ≼ exp_lower u (suc n) ⊕ d ⊗ exp_lower v n
  unfolding exp_lower sum exp_term power
  exp_moves zero = ⊕-upper _ _
  exp_moves (suc n) =
      ≼_trans (⊕-mono (exp_moves n) (exp_term_moves n))
      (interleave (sum (exp_term u) (suc n)) (sum (exp_term v) n) (exp_term u (suc n)) (exp_term v n) d)

  -- ln

  ln_term_moves : (j : ℕ) → ln_term v j ≼ ln_term u j ⊕ d ⊗ power v (even j)
  unfolding ln_term
  ln_term_moves j =
      ≼_trans (⊗_mono (power_moves (even j)) (≼_refl _)) (to≼ (odd_split (odd j) (odd_pos j) (power u (odd j)) d (power v (even j))))

  sum_moves : (n : ℕ) → sum (ln_term v) n ≼ sum (ln_term u) n ⊕ d ⊗ sum (λ j. power v (even j)) n
  unfolding sum
  sum_moves zero = ⊕-upper _ _
  sum_moves (suc n) = ≼_trans (⊕-mono (sum_moves n) (ln_term_moves n)) (interleave (sum (ln_term u) n) _ (ln_term u n) (power v (even n)) d)

  -- L_N(v) ≤ L_N(u) + 2 d/(1 - v²), in u and v
  pub series_moves : (g : Above0 (gap v)) (n : ℕ) → series_lower v n ≼ series_lower u n ⊕ whole 2 ⊗ (d ⊗ recip (gap v) g)
  unfolding series_lower
  series_moves g n =
      ≼_trans (⊗_mono (≼_refl (whole 2)) (≼_trans (sum_moves n) (⊕-mono (≼_refl _) (⊗_mono (≼_refl d) (geometric v g n)))))
      (to≼ (distrib (whole 2) (sum (ln_term u) n) (d ⊗ recip (gap v) g)))

-- ln f in f: from f to g ≤ f + δ the argument moves by at most 2δ/((f + 1)(g + 1)), and 1/(1 - u²) is (g + 1)²/4g,
-- so that ln moves by at most δ/f

-- (f - 1)/(f + 1) in lowest terms of this form
small : Ratio → Ratio
small f = record { num = f.num - f.den; den = f.num + f.den; positive = omega (arith, f.positive) }

small_is : (f : Ratio) → argument f ≈ small f
unfolding small argument whole recip ◌⊖◌ ◌⊗◌ ◌⊕◌
small_is f = let e : f.num * 1 - 1 * f.den ≡ f.num - f.den = omega arith in record { cross = rw e (omega arith) }

moved : Ratio → Ratio → Ratio → Ratio
moved f g δ =
    record {
      num = 2 * (δ.num * f.den * g.den);
      den = δ.den * ((f.num + f.den) * (g.num + g.den));
      positive =
          mul-pos δ.positive (mul-pos {m = f.num + f.den} (omega (arith, f.positive)) (omega (arith, g.positive)));
    }

moved_core : (p q r s x y a b : ℕ) → a + q ≡ p → b + s ≡ r → r * (q * y) ≤ (p * y + x * q) * s
    → b * y * (p + q) ≤ a * y * (r + s) + 2 * (x * q * s)
moved_core p q r s x y a b d e h = omega (arith, ap (λ i. i * (y * (p + q))) e, ap (λ i. i * (y * (r + s))) d)

moved_scale : (a b y P R z : ℕ) → b * y * P ≤ a * y * R + z → b * (P * (y * (P * R))) ≤ (a * (y * (P * R)) + z * P) * R
moved_scale a b y P R z h = omega (arith, mul-le-mul_right (P * R) h)

small_moves : (f g δ : Ratio) → whole 1 ≼ f → whole 1 ≼ g → g ≼ f ⊕ δ → small g ≼ small f ⊕ moved f g δ
unfolding small moved whole ◌⊕◌
small_moves f g δ o k h =
    record {
      cross =
          moved_scale _ _ _ _ _ _
          (moved_core f.num f.den g.num g.den δ.num δ.den (f.num - f.den) (g.num - g.den) (omega arith) (omega arith) h.cross);
    }

-- 1/(1 - u²) ≤ (g + 1)²/4g
quarter : (g : Ratio) → Above0 g → Ratio
quarter g q =
    record {
      num = (g.num + g.den) * (g.num + g.den);
      den = 4 * (g.num * g.den);
      positive = omega (arith, mul-pos q.above g.positive);
    }

quarter_core : (r s b z : ℕ) → b + s ≡ r → 1 * ((r + s) * (r + s)) ≤ z + b * b * 1 → 4 * (r * s) ≤ z
quarter_core r s b z e h = omega (arith, ap (λ i. i * b) e, ap (λ i. i * r) e, ap (λ i. i * s) e)

gap_small : (g : Ratio) → whole 1 ≼ g → (q : Above0 g) (h : Above0 (gap (small g))) → recip (gap (small g)) h ≼ quarter g q
unfolding gap small quarter whole recip ◌⊖◌ ◌⊗◌
gap_small g k q h =
    let c : 4 * (g.num * g.den) ≤ 1 * ((g.num + g.den) * (g.num + g.den)) - (g.num - g.den) * (g.num - g.den) * 1
    = quarter_core g.num g.den (g.num - g.den) _ (omega arith) (omega arith) in
    record { cross = scale (g.num + g.den) _ _ c }
  where
    scale : (R c z : ℕ) → c ≤ z → 1 * (R * R) * c ≤ R * R * z
    scale R c z h = omega (arith, mul-le-mul_right (R * R) h)

gap_argument_small : (g : Ratio) → whole 1 ≼ g → (q : Above0 g) (h : Above0 (gap (argument g))) → recip (gap (argument g)) h ≼ quarter g q
gap_argument_small g k q h =
    let i : Above0 (gap (small g)) = above_mono h (gap_anti (from≼ (small_is g)) h) in
    ≼_trans (recip_anti i h (gap_anti (to≼ (small_is g)) i)) (gap_small g k q i)

-- 2 · 2δ/((f + 1)(g + 1)) · (g + 1)²/4g ≤ δ/f
moved_scale' : (p q r s x y P R : ℕ) → R * p ≤ P * r
    → 2 * (2 * (x * q * s) * (R * R)) * (y * p) ≤ x * q * (1 * (y * (P * R) * (4 * (r * s))))
moved_scale' p q r s x y P R h = omega (arith, mul-le-mul_right (4 * (x * q * s * R * y)) h)

moved_quarter : (f g δ : Ratio) → f ≼ g → (p : Above0 f) (q : Above0 g) → whole 2 ⊗ (moved f g δ ⊗ quarter g q) ≼ δ ⊗ recip f p
unfolding moved quarter whole recip ◌⊗◌
moved_quarter f g δ l p q =
    record { cross = moved_scale' f.num f.den g.num g.den δ.num δ.den (f.num + f.den) (g.num + g.den) (omega (arith, l.cross)) }

-- for f and g in the same octave: L_N(g) ≤ L_N(f) + δ/f
pub ln_fraction_moves : (f g δ : Ratio) → whole 1 ≼ f → f ≼ g → g ≼ f ⊕ δ → (p : Above0 f) (n : ℕ)
    → series_lower (argument g) n ≼ series_lower (argument f) n ⊕ δ ⊗ recip f p
ln_fraction_moves f g δ o l h p n =
    let k : whole 1 ≼ g = ≼_trans o l in
    let q : Above0 g = above_mono p l in
    let m : argument g ≼ argument f ⊕ moved f g δ
    = ≼_trans (to≼ (small_is g)) (≼_trans (small_moves f g δ o k h) (⊕-mono (from≼ (small_is f)) (≼_refl (moved f g δ)))) in
    ≼_trans (series_moves (argument f) (argument g) (moved f g δ) (argument_mono l) m (gap_argument g q) n)
    (⊕-mono (≼_refl _)
    (≼_trans (⊗_mono (≼_refl (whole 2)) (⊗_mono (≼_refl (moved f g δ)) (gap_argument_small g k q (gap_argument g q))))
    (moved_quarter f g δ l p q)))
