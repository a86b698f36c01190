-- A series of non-negative terms `t` with remainders `r`: where each remainder covers the next term and the next remainder,
-- every partial sum lies below every partial sum with its remainder. Assumes nothing.
use Prim.Native.Nat.{ℕ, zero, suc, ◌+◌, ◌≤◌}
use Rattle.std.specs.Prelude.{◌≡◌}
use Rattle.std.proofs.Common.{◌∙◌, subst, arith}
use Rattle.std.proofs.Math.Nat.{le_dest}
use Rattle.std.proofs.Math.Decide.{dec_le}
use Rattle.exact.specs.Fraction.{Ratio, ◌≼◌, ◌⊕◌, sum}
use Rattle.exact.proofs.laws.Ratio.{≼_refl, ≼_trans, ⊕-mono, ⊕-assoc, ⊕-upper, to≼}

-- n + j, by recursion on j: native `n + suc j` does not compute, and this does
abbrev pub after : ℕ → ℕ → ℕ
after n zero = n
after n (suc j) = suc (after n j)

pub after_is : (n j : ℕ) → after n j ≡ n + j
after_is n zero = omega arith
after_is n (suc j) = omega (arith, after_is n j)

-- of two counts, one comes some way after the other
pub data Order (m n : ℕ) : Type 0 where
  before : (k : ℕ) → after m k ≡ n → Order m n
  beyond : (k : ℕ) → after n k ≡ m → Order m n

pub order : (m n : ℕ) → Order m n
order m n = go (dec_le m n)
  where
    go : Dec (m ≤ n) → Order m n
    go (yes h) = let d : (k : ℕ) × (m + k ≡ n) = le_dest h in before d.0 (after_is m d.0 ∙ d.1)
    go (no h) =
        let l : n ≤ m = omega arith in
        let d : (k : ℕ) × (n + k ≡ m) = le_dest l in beyond d.0 (after_is n d.0 ∙ d.1)

pub sum_grows : (t : ℕ → Ratio) (n k : ℕ) → sum t n ≼ sum t (after n k)
unfolding sum
sum_grows t n zero = ≼_refl (sum t n)
sum_grows t n (suc k) = ≼_trans (sum_grows t n k) (⊕-upper (sum t (after n k)) (t (after n k)))

-- more terms
pub sum_rises : (t : ℕ → Ratio) (m n : ℕ) → m ≤ n → sum t m ≼ sum t n
sum_rises t m n l = let d = le_dest l in subst (λ i. sum t m ≼ sum t i) (after_is m d.0 ∙ d.1) (sum_grows t m d.0)

module _ (t r : ℕ → Ratio) (n : ℕ) (covers : (j : ℕ) → t (after n j) ⊕ r (suc j) ≼ r j) where
  -- the upper ends fall: `r j` is the remainder after `n + j` terms
  pub upper_falls : (k : ℕ) → sum t (after n k) ⊕ r k ≼ sum t n ⊕ r 0
  unfolding sum
  upper_falls zero = ≼_refl (sum t n ⊕ r 0)
  upper_falls (suc k) =
      ≼_trans (to≼ (⊕-assoc (sum t (after n k)) (t (after n k)) (r (suc k))))
      (≼_trans (⊕-mono (≼_refl (sum t (after n k))) (covers k)) (upper_falls k))

  -- every lower end is below every upper end
  pub lower_upper : (m : ℕ) → sum t m ≼ sum t n ⊕ r 0
  lower_upper m = go (order m n)
    where
      go : Order m n → sum t m ≼ sum t n ⊕ r 0
      go (before k e) = ≼_trans (subst (λ i. sum t m ≼ sum t i) e (sum_grows t m k)) (⊕-upper (sum t n) (r 0))
      go (beyond k e) = subst (λ i. sum t i ≼ sum t n ⊕ r 0) e (≼_trans (⊕-upper (sum t (after n k)) (r k)) (upper_falls k))
