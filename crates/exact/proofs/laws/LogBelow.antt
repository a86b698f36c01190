-- e^(ln t) ≤ t: every sum of e^ at every lower end of ln t, t ≥ 1, is at most t.
-- From 1 to t in steps of 1/m, ln moves from f to f + 1/m by at most 1/(m f), and e^ of that is at most m f/(m f - 1): the
-- product of these is at most (m t - 1)/(m - 1), for every m. Assumes nothing.
use Rattle.std.specs.Prelude.{ℕ, zero, suc, ◌+◌, ◌*◌, ◌-◌, ◌≤◌, ◌<◌, ◌≡◌}
use Rattle.std.proofs.Common.{ap, mul-pos, mul-le-mul_right, arith}
use Rattle.std.proofs.Math.Nat.{le_dest}
use Rattle.std.proofs.Math.Decide.{dec_le}
use Rattle.exact.specs.Fraction.{Ratio, ◌≼◌, Above0, whole, ◌⊕◌, ◌⊗◌, ◌⊖◌, recip}
use Rattle.exact.specs.Series.{exp_lower, one_over}
use Rattle.exact.specs.LnExp.{ln_lower}
use Rattle.exact.proofs.laws.Addition.{sum_below_product}
use Rattle.exact.proofs.laws.Exp.{exp_lower_mono}
use Rattle.exact.proofs.laws.ExpSpread.{near_zero}
use Rattle.exact.proofs.laws.Ln.{ln_lower_mono}
use Rattle.exact.proofs.laws.Octaves.{ln_moves}
use Rattle.exact.proofs.laws.Ratio.{shift, to≼, ≼_refl, ≼_trans, ⊕-mono, ⊗_mono}
use Rattle.exact.proofs.laws.Reduction.{most_zero}
use Rattle.exact.proofs.laws.Spread.{ln_one}

-- 1 + i/m, m = p + 1
step : ℕ → ℕ → Ratio
step p i = record { num = suc p + i; den = suc p; positive = omega arith }

step_one : (p i : ℕ) → whole 1 ≼ step p i
unfolding step whole
step_one p i = omega arith

step_start : (p : ℕ) → step p 0 ≼ whole 1
unfolding step whole
step_start p = omega arith

step_above : (p i : ℕ) → Above0 (step p i)
unfolding step
step_above p i = omega arith

step_grows : (p i : ℕ) → step p i ≼ step p (suc i)
unfolding step
step_grows p i = omega (arith, mul-le-mul_right (suc p) (le-suc (suc p + i)))
  where
    le-suc : (n : ℕ) → n ≤ suc n
    le-suc n = omega arith

step_next : (p i : ℕ) (z : 0 < suc p) → step p (suc i) ≼ step p i ⊕ one_over (suc p) z
unfolding step one_over ◌⊕◌
step_next p i z = omega arith

-- what ln moves by
moves_by : (p i : ℕ) (z : 0 < suc p) (y : 0 < suc (p + i)) → one_over (suc p) z ⊗ recip (step p i) (step_above p i) ≼ one_over (suc (p + i)) y
unfolding step one_over recip ◌⊗◌
moves_by p i z y = omega arith

-- e^(1/(j+1)) j ≤ j + 1
inverse_step : (j : ℕ) (y : 0 < suc j) (S : Ratio) → S ⊗ (whole 1 ⊖ one_over (suc j) y) ≼ whole 1 → whole j ⊗ S ≼ whole (suc j)
unfolding one_over whole ◌⊗◌ ◌⊖◌
inverse_step j y S h =
    let e : 1 * suc j - 1 * 1 ≡ j = omega arith in
    let g : S.num * (1 * suc j - 1 * 1) * 1 ≤ 1 * (S.den * (1 * suc j)) = h.cross in
    let k = rw e at g in
    omega arith

at_start : (S : Ratio) (p : ℕ) → S ≼ whole 1 → S ⊗ whole p ≼ whole (p + 0)
unfolding whole ◌⊗◌
at_start S p h = omega (arith, mul-le-mul_right p h.cross)

whole_suc : (p i : ℕ) → whole (suc (p + i)) ≼ whole (p + suc i)
unfolding whole
whole_suc p i = omega arith

-- e^(ln (1 + i/m)) ≤ (m + i - 1)/(m - 1)
climbs : (p i m n : ℕ) → exp_lower (ln_lower (step p i) m) n ⊗ whole p ≼ whole (p + i)
climbs p zero m n =
    at_start _ p
    (≼_trans (exp_lower_mono (≼_trans (ln_lower_mono (step p 0) (whole 1) (step_one p 0) (step_start p) m) (ln_one m)) n) (most_zero.all n))
climbs p (suc i) m n =
    let z : 0 < suc p = omega arith in
    let y : 0 < suc (p + i) = omega arith in
    let l : ln_lower (step p (suc i)) m ≼ ln_lower (step p i) m ⊕ one_over (suc (p + i)) y
    = ≼_trans (ln_moves (step p i) (step p (suc i)) (one_over (suc p) z) (step_one p i) (step_grows p i) (step_next p i z) (step_above p i) m)
    (⊕-mono (≼_refl _) (moves_by p i z y)) in
    ≼_trans (⊗_mono (≼_trans (exp_lower_mono l n) (sum_below_product _ _ n)) (≼_refl (whole p)))
    (≼_trans (to≼ (shift _ _ (whole p)))
    (≼_trans (⊗_mono (climbs p i m n) (≼_refl _))
    (≼_trans (inverse_step (p + i) y _ (near_zero _ _ (≼_refl _) n)) (whole_suc p i))))

-- a/d is 1 + i/m for m = p + 1 = d K
pub steps_to : (a d K : ℕ) → 0 < d → 0 < K → d ≤ a → (p : ℕ) × (i : ℕ) × (suc p ≡ d * K) × (suc p + i ≡ a * K)
steps_to a d K z y l =
    let e : 1 ≤ d * K = mul-pos {m = d} z y in
    let u : (p : ℕ) × (1 + p ≡ d * K) = le_dest e in
    let w : (i : ℕ) × (d * K + i ≡ a * K) = le_dest (mul-le-mul_right K l) in
    (u.0, w.0, omega (arith, u.1), omega (arith, u.1, w.1))

-- for t = a/d and X/Y a sum: X/Y ≤ (a K - 1)/(d K - 1) for every K gives X/Y ≤ a/d
limit : (a d X Y : ℕ) → ((p i : ℕ) → suc p ≡ d * suc X → suc p + i ≡ a * suc X → X * p ≤ (p + i) * Y) → 0 < d → d ≤ a → 0 < Y → X * d ≤ a * Y
limit a d X Y h z l y =
    let s = steps_to a d (suc X) z (omega arith) l in
    go s.0 s.1 s.2 s.3 (h s.0 s.1 s.2 s.3) (dec_le (X * d) (a * Y))
  where
    go : (p i : ℕ) → suc p ≡ d * suc X → suc p + i ≡ a * suc X → X * p ≤ (p + i) * Y → Dec (X * d ≤ a * Y) → X * d ≤ a * Y
    go p i e f g (yes k) = k
    go p i e f g (no k) =
        let q : suc (a * Y) ≤ X * d = omega arith in
        absurd (omega (arith, mul-le-mul_right (suc X) q, ap (λ j. X * j) e, ap (λ j. j * Y) f))

step_above_t : (t : Ratio) (p i K : ℕ) → suc p ≡ t.den * K → suc p + i ≡ t.num * K → t ≼ step p i
unfolding step
step_above_t t p i K e f = record { cross = rw (f, e) (omega arith) }

pub one_below : (t : Ratio) → whole 1 ≼ t → t.den ≤ t.num
unfolding whole
one_below t l = omega arith

bounded : (S : Ratio) (p q : ℕ) → S ⊗ whole p ≼ whole q → S.num * p ≤ q * S.den
unfolding whole ◌⊗◌
bounded S p q h = omega arith

pub exp_ln_below : (t : Ratio) → whole 1 ≼ t → (m n : ℕ) → exp_lower (ln_lower t m) n ≼ t
exp_ln_below t l m n =
    record { cross = limit t.num t.den S.num S.den each t.positive (one_below t l) S.positive }
  where
    S : Ratio
    S = exp_lower (ln_lower t m) n

    each : (p i : ℕ) → suc p ≡ t.den * suc S.num → suc p + i ≡ t.num * suc S.num → S.num * p ≤ (p + i) * S.den
    each p i e f =
        bounded S p (p + i)
        (≼_trans (⊗_mono (exp_lower_mono (ln_lower_mono t (step p i) l (step_above_t t p i (suc S.num) e f) m) n) (≼_refl (whole p))) (climbs p i m n))
