-- The ends of e^y at fractions y ≥ 0: every lower end is below every upper end, lower ends rise and upper ends fall with N, and
-- both rise with y. Assumes nothing.
use Rattle.std.specs.Prelude.{ℕ, zero, suc, ◌+◌, ◌*◌, ◌-◌, ◌≤◌, ◌≡◌}
use Rattle.std.proofs.Common.{◌∙◌, ap, subst, mul-le-mul_right, arith}
use Rattle.std.proofs.Math.Nat.{le_dest}
use Rattle.exact.specs.Fraction.{Ratio, ◌≼◌, ◌≈◌, Above0, whole, ◌⊕◌, ◌⊗◌, ◌⊖◌, recip, power}
use Rattle.exact.specs.Series.{exp_lower, exp_tail, exp_term, exp_upper, factorial}
use Rattle.exact.proofs.laws.Ratio.{≼_refl, ≼_trans, to≼, ⊕-mono, ⊗_mono, recip_anti, ⊖-anti, power_mono, sum_mono}
use Rattle.exact.proofs.laws.Sums.{sum_rises, upper_falls, after_is, after, lower_upper}

-- Larger N

pub small_suc : (y : Ratio) (n : ℕ) → Above0 (whole (suc n) ⊖ y) → Above0 (whole (suc (suc n)) ⊖ y)
unfolding whole ◌⊖◌
small_suc y n h = omega arith

-- y^(j+1)/(j+1)! is y^j/j! times y/(j+1)
pub term_suc : (y : Ratio) (n : ℕ) → exp_term y (suc n) ≈ exp_term y n ⊗ (y ⊗ record { num = 1; den = suc n; positive = omega arith })
unfolding exp_term power factorial ◌⊗◌
term_suc y n = omega arith

-- 1 + y/(n+1) · (n+2)/(n+2-y) ≤ (n+1)/(n+1-y)
tail_ratio : (y : Ratio) (n : ℕ) (h : Above0 (whole (suc n) ⊖ y)) (k : Above0 (whole (suc (suc n)) ⊖ y))
    → whole 1 ⊕ (y ⊗ record { num = 1; den = suc n; positive = omega arith }) ⊗ (whole (suc (suc n)) ⊗ recip (whole (suc (suc n)) ⊖ y) k)
    ≼ whole (suc n) ⊗ recip (whole (suc n) ⊖ y) h
unfolding whole ◌⊖◌ ◌⊗◌ ◌⊕◌ recip
tail_ratio y n h k = record { cross = go (suc n * y.den - y.num * 1) (suc (suc n) * y.den - y.num * 1) (omega arith) (omega arith) }
  where
    go : (m m' : ℕ) → m + y.num ≡ suc n * y.den → m' ≡ m + y.den
        → (1 * (y.den * suc n * (1 * m')) + y.num * 1 * (suc (suc n) * (1 * y.den)) * 1) * (1 * m)
        ≤ suc n * (1 * y.den) * (1 * (y.den * suc n * (1 * m')))
    go m m' p q =
        omega (
          arith,
          ap (λ i. i * (y.den * suc n * m')) p,
          ap (λ i. i * (y.num * y.den)) p,
          ap (λ i. i * (y.num * y.den * suc n)) q,
        )

factor : (t r s : Ratio) → t ⊕ (t ⊗ r) ⊗ s ≈ t ⊗ (whole 1 ⊕ r ⊗ s)
unfolding whole ◌⊗◌ ◌⊕◌
factor t r s = omega arith

-- the remainder covers the next term and the next remainder
tail_covers : (y : Ratio) (n : ℕ) (h : Above0 (whole (suc n) ⊖ y)) (k : Above0 (whole (suc (suc n)) ⊖ y))
    → exp_term y n ⊕ exp_tail y (suc n) k ≼ exp_tail y n h
unfolding exp_tail
tail_covers y n h k =
    ≼_trans (⊕-mono (≼_refl (exp_term y n)) (⊗_mono (to≼ (term_suc y n)) (≼_refl _)))
    (≼_trans (to≼ (factor (exp_term y n) _ _)) (⊗_mono (≼_refl (exp_term y n)) (tail_ratio y n h k)))

small_after : (y : Ratio) (n : ℕ) → Above0 (whole (suc n) ⊖ y) → (j : ℕ) → Above0 (whole (suc (after n j)) ⊖ y)
small_after y n h zero = h
small_after y n h (suc j) = small_suc y (after n j) (small_after y n h j)

-- every lower end is below every upper end
pub exp_lower_upper : (y : Ratio) (m n : ℕ) (h : Above0 (whole (suc n) ⊖ y)) → exp_lower y m ≼ exp_upper y n h
unfolding exp_lower exp_upper small_after
exp_lower_upper y m n h =
    lower_upper (exp_term y) (λ j. exp_tail y (after n j) (small_after y n h j)) n
    (λ j. tail_covers y (after n j) (small_after y n h j) (small_after y n h (suc j))) m

pub exp_lower_grows : (y : Ratio) (m n : ℕ) → m ≤ n → exp_lower y m ≼ exp_lower y n
unfolding exp_lower
exp_lower_grows y m n l = sum_rises (exp_term y) m n l

pub exp_room_grows : (y : Ratio) (m n : ℕ) → m ≤ n → Above0 (whole (suc m) ⊖ y) → Above0 (whole (suc n) ⊖ y)
unfolding whole ◌⊖◌
exp_room_grows y m n l h = omega (arith, mul-le-mul_right y.den l)

-- Larger y

pub term_mono : {x y : Ratio} → x ≼ y → (j : ℕ) → exp_term x j ≼ exp_term y j
unfolding exp_term
term_mono l j = ⊗_mono (power_mono l j) (≼_refl _)

pub exp_lower_mono : {x y : Ratio} → x ≼ y → (n : ℕ) → exp_lower x n ≼ exp_lower y n
unfolding exp_lower
exp_lower_mono l n = sum_mono (term_mono l) n

pub exp_upper_mono : {x y : Ratio} → x ≼ y → (n : ℕ) (h : Above0 (whole (suc n) ⊖ x)) (k : Above0 (whole (suc n) ⊖ y)) → exp_upper x n h ≼ exp_upper y n k
unfolding exp_upper exp_tail
exp_upper_mono l n h k =
    ⊕-mono (exp_lower_mono l n)
    (⊗_mono (term_mono l n) (⊗_mono (≼_refl (whole (suc n))) (recip_anti k h (⊖-anti (whole (suc n)) l k))))

pub exp_upper_falls : (y : Ratio) (m n : ℕ) → m ≤ n → (h : Above0 (whole (suc m) ⊖ y)) (g : Above0 (whole (suc n) ⊖ y)) → exp_upper y n g ≼ exp_upper y m h
unfolding exp_upper exp_lower small_after
exp_upper_falls y m n l h =
    let d = le_dest l in
    subst (λ i. (g : Above0 (whole (suc i) ⊖ y)) → exp_upper y i g ≼ exp_upper y m h) (after_is m d.0 ∙ d.1) (later d.0)
  where
    falls : (k : ℕ) → exp_upper y (after m k) (small_after y m h k) ≼ exp_upper y m h
    falls k =
        upper_falls (exp_term y) (λ j. exp_tail y (after m j) (small_after y m h j)) m
        (λ j. tail_covers y (after m j) (small_after y m h j) (small_after y m h (suc j))) k

    later : (k : ℕ) (g : Above0 (whole (suc (after m k)) ⊖ y)) → exp_upper y (after m k) g ≼ exp_upper y m h
    later k g = ≼_trans (exp_upper_mono (≼_refl y) (after m k) g (small_after y m h k)) (falls k)
