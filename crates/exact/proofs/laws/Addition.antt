-- The addition law of the sums S_N of e^: S_N(a + b) ≤ S_N(a) S_N(b), and S_M(a) S_N(b) ≤ S_K(a + b) for M + N ≤ K.
-- Both bound the same triangle of products of terms, whose diagonals are the terms of a + b (`binomial`).
-- Assumes nothing.
use Prim.Native.Nat.{ℕ, zero, suc, ◌+◌, ◌≤◌}
use Rattle.std.specs.Prelude.{◌≡◌}
use native.Mathlib.Omega.{arith}
use Rattle.exact.specs.Fraction.{Ratio, ◌≼◌, ◌≈◌, whole, ◌⊕◌, ◌⊗◌, power, sum}
use Rattle.exact.specs.Series.{factorial, exp_term, exp_lower}
use Rattle.exact.proofs.laws.Equal.{≈-refl, ≈-sym, ≈-trans, ⊕-cong, ⊗_cong, ≈-cancel}
use Rattle.exact.proofs.laws.Exp.{exp_lower_grows}
use Rattle.exact.proofs.laws.Ratio.{exchange, nothing_times, above_whole, ≼_refl, ≼_trans, to≼, from≼, zero-≼, ⊕-mono, ⊗_mono, ⊕-comm, ⊕-assoc, ⊕-upper, ⊗_assoc, distrib}

-- Terms

-- (n+1) y^(n+1)/(n+1)! = y · y^n/n!
pub term_step : (y : Ratio) (n : ℕ) → whole (suc n) ⊗ exp_term y (suc n) ≈ y ⊗ exp_term y n
unfolding exp_term power factorial whole ◌⊗◌
term_step y n = omega arith

-- w (X Y) = a (X' Y) + b (X Y'), for w = m + n, m X = a X' and n Y = b Y'

leibniz_apart : (m n w : ℕ) → w ≡ m + n → (X Y : Ratio) → whole w ⊗ (X ⊗ Y) ≈ whole m ⊗ X ⊗ Y ⊕ X ⊗ (whole n ⊗ Y)
unfolding whole ◌⊕◌ ◌⊗◌
leibniz_apart m n w e X Y = rw e (omega arith)

leibniz_back : (a b X X' Y Y' : Ratio) → a ⊗ X' ⊗ Y ⊕ X ⊗ (b ⊗ Y') ≈ a ⊗ (X' ⊗ Y) ⊕ b ⊗ (X ⊗ Y')
unfolding ◌⊕◌ ◌⊗◌
leibniz_back a b X X' Y Y' = omega arith

leibniz : (m n w : ℕ) → w ≡ m + n → (a b X X' Y Y' : Ratio) → whole m ⊗ X ≈ a ⊗ X' → whole n ⊗ Y ≈ b ⊗ Y'
    → whole w ⊗ (X ⊗ Y) ≈ a ⊗ (X' ⊗ Y) ⊕ b ⊗ (X ⊗ Y')
leibniz m n w e a b X X' Y Y' h k =
    ≈-trans (leibniz_apart m n w e X Y)
    (≈-trans (⊕-cong (⊗_cong h (≈-refl Y)) (⊗_cong (≈-refl X) k)) (leibniz_back a b X X' Y Y'))

-- w (X + Y) = a (P + R) + b (Q + S)
join : (w a b X Y P Q R S : Ratio) → w ⊗ X ≈ a ⊗ P ⊕ b ⊗ Q → w ⊗ Y ≈ a ⊗ R ⊕ b ⊗ S → w ⊗ (X ⊕ Y) ≈ a ⊗ (P ⊕ R) ⊕ b ⊗ (Q ⊕ S)
join w a b X Y P Q R S h k =
    ≈-trans (distrib w X Y)
    (≈-trans (⊕-cong h k)
    (≈-trans (exchange (a ⊗ P) (b ⊗ Q) (a ⊗ R) (b ⊗ S)) (⊕-cong (≈-sym (distrib a P R)) (≈-sym (distrib b Q S)))))

-- w (T Y) = b (T Y'), with nothing before them
first_apart : (w T Y : Ratio) → w ⊗ (whole 0 ⊕ T ⊗ Y) ≈ T ⊗ (w ⊗ Y)
unfolding whole ◌⊕◌ ◌⊗◌
first_apart w T Y = omega arith

first_back : (a b T Y' : Ratio) → T ⊗ (b ⊗ Y') ≈ a ⊗ whole 0 ⊕ b ⊗ (whole 0 ⊕ T ⊗ Y')
unfolding whole ◌⊕◌ ◌⊗◌
first_back a b T Y' = omega arith

factor : (x y z : Ratio) → x ⊗ z ⊕ y ⊗ z ≈ (x ⊕ y) ⊗ z
unfolding ◌⊕◌ ◌⊗◌
factor x y z = omega arith

-- w (X + Z Y) = (a + b) (P + T Y)
last_apart : (w X Y Z : Ratio) → w ⊗ (X ⊕ Z ⊗ Y) ≈ w ⊗ X ⊕ w ⊗ Z ⊗ Y
unfolding ◌⊕◌ ◌⊗◌
last_apart w X Y Z = omega arith

last_back : (a b P T Y : Ratio) → a ⊗ P ⊕ b ⊗ (P ⊕ T ⊗ Y) ⊕ a ⊗ T ⊗ Y ≈ (a ⊕ b) ⊗ (P ⊕ T ⊗ Y)
last_back a b P T Y =
    ≈-trans (⊕-cong (≈-refl _) (⊗_assoc a T Y))
    (≈-trans (swap (a ⊗ P) (b ⊗ (P ⊕ T ⊗ Y)) (a ⊗ (T ⊗ Y)))
    (≈-trans (⊕-cong (≈-sym (distrib a P (T ⊗ Y))) (≈-refl _)) (factor a b (P ⊕ T ⊗ Y))))
  where
    swap : (x y z : Ratio) → x ⊕ y ⊕ z ≈ x ⊕ z ⊕ y
    swap x y z = ≈-trans (⊕-assoc x y z) (≈-trans (⊕-cong (≈-refl x) (⊕-comm y z)) (≈-sym (⊕-assoc x z y)))

-- The diagonals of the table of products of terms

-- the sum, over i < n, of a^i/i! · b^k/k!, for i + k = q + n - 1
unfoldable pub diagonal : Ratio → Ratio → ℕ → ℕ → Ratio
diagonal a b zero q = whole 0
diagonal a b (suc n) q = diagonal a b n (suc q) ⊕ exp_term a n ⊗ exp_term b q

module _ (a b : Ratio) where
  -- the step of a diagonal that stops short
  inner : (n q w : ℕ) → w ≡ suc (n + q) → whole w ⊗ diagonal a b (suc n) (suc q) ≈ a ⊗ diagonal a b n (suc q) ⊕ b ⊗ diagonal a b (suc n) q
  unfolding diagonal
  inner zero q w e =
      let f : w ≡ suc q = omega arith in
      rw f
      (≈-trans (first_apart (whole (suc q)) (exp_term a 0) (exp_term b (suc q)))
      (≈-trans (⊗_cong (≈-refl (exp_term a 0)) (term_step b q)) (first_back a b (exp_term a 0) (exp_term b q))))
  inner (suc n) q w e =
      join (whole w) a b _ _ _ _ _ _ (inner n (suc q) w (omega arith))
      (leibniz (suc n) (suc q) w (omega arith) a b _ _ _ _ (term_step a n) (term_step b q))

  -- the step of a whole diagonal
  outer : (n : ℕ) → whole (suc n) ⊗ diagonal a b (suc (suc n)) 0 ≈ (a ⊕ b) ⊗ diagonal a b (suc n) 0
  unfolding diagonal
  outer n =
      ≈-trans (last_apart (whole (suc n)) (diagonal a b (suc n) 1) (exp_term b 0) (exp_term a (suc n)))
      (≈-trans (⊕-cong (inner n 0 (suc n) (omega arith)) (⊗_cong (term_step a n) (≈-refl (exp_term b 0))))
      (last_back a b (diagonal a b n 1) (exp_term a n) (exp_term b 0)))

  first_diagonal : diagonal a b 1 0 ≈ exp_term (a ⊕ b) 0
  unfolding diagonal exp_term power factorial whole ◌⊕◌ ◌⊗◌
  first_diagonal = omega arith

  -- (a + b)^n/n! is the sum of a^i/i! · b^k/k! over i + k = n
  pub binomial : (n : ℕ) → diagonal a b (suc n) 0 ≈ exp_term (a ⊕ b) n
  binomial zero = first_diagonal
  binomial (suc n) =
      ≈-cancel (whole (suc n)) (above_whole n)
      (≈-trans (outer n) (≈-trans (⊗_cong (≈-refl (a ⊕ b)) (binomial n)) (≈-sym (term_step (a ⊕ b) n))))

-- The triangle of the first diagonals

-- the sum, over i < n, of a^i/i! · S_k(b), for i + k = q + n
unfoldable pub triangle : Ratio → Ratio → ℕ → ℕ → Ratio
triangle a b zero q = whole 0
triangle a b (suc n) q = triangle a b n (suc q) ⊕ exp_term a n ⊗ exp_lower b (suc q)

zero_sum : whole 0 ≈ whole 0 ⊕ whole 0
unfolding whole ◌⊕◌
zero_sum = omega arith

nothing_before : (x y z : Ratio) → x ⊕ y ⊗ (whole 0 ⊕ z) ≈ x ⊕ y ⊗ z
unfolding whole ◌⊕◌ ◌⊗◌
nothing_before x y z = omega arith

module _ (a b : Ratio) where
  -- one diagonal more
  triangle_step : (n q : ℕ) → triangle a b n (suc q) ≈ triangle a b n q ⊕ diagonal a b n (suc q)
  unfolding triangle diagonal exp_lower sum
  triangle_step zero q = zero_sum
  triangle_step (suc n) q =
      ≈-trans (⊕-cong (triangle_step n (suc q)) (distrib (exp_term a n) (sum (exp_term b) (suc q)) (exp_term b (suc q))))
      (exchange (triangle a b n (suc q)) (diagonal a b n (suc (suc q))) _ _)

  triangle_grows : (n : ℕ) → triangle a b (suc n) 0 ≈ triangle a b n 0 ⊕ diagonal a b (suc n) 0
  unfolding triangle diagonal exp_lower sum
  triangle_grows n =
      ≈-trans (nothing_before (triangle a b n 1) (exp_term a n) (exp_term b 0))
      (≈-trans (⊕-cong (triangle_step n 0) (≈-refl _)) (⊕-assoc (triangle a b n 0) (diagonal a b n 1) _))

  empty : triangle a b 0 0 ≈ whole 0
  unfolding triangle
  empty = ≈-refl (whole 0)

  -- the triangle of the first n diagonals is S_n(a + b)
  pub triangle_is : (n : ℕ) → triangle a b n 0 ≈ exp_lower (a ⊕ b) n
  unfolding exp_lower sum
  triangle_is zero = empty
  triangle_is (suc n) = ≈-trans (triangle_grows n) (⊕-cong (triangle_is n) (binomial a b n))

  -- it lies in a square
  triangle_in_square : (n q m : ℕ) → q + n ≤ m → triangle a b n q ≼ exp_lower a n ⊗ exp_lower b m
  unfolding triangle exp_lower sum
  triangle_in_square zero q m l = zero-≼ _
  triangle_in_square (suc n) q m l =
      ≼_trans (⊕-mono (triangle_in_square n (suc q) m (omega arith)) (⊗_mono (≼_refl (exp_term a n)) (exp_lower_grows b (suc q) m (omega arith))))
      (to≼ (factor (sum (exp_term a) n) (exp_term a n) (sum (exp_term b) m)))

  -- and holds a rectangle
  rectangle_in_triangle : (n q : ℕ) → exp_lower a n ⊗ exp_lower b q ≼ triangle a b n q
  unfolding triangle exp_lower sum
  rectangle_in_triangle zero q = nothing_times _
  rectangle_in_triangle (suc n) q =
      ≼_trans (from≼ (factor (sum (exp_term a) n) (exp_term a n) (sum (exp_term b) q)))
      (⊕-mono (≼_trans (⊗_mono (≼_refl _) (exp_lower_grows b q (suc q) (omega arith))) (rectangle_in_triangle n (suc q)))
      (⊗_mono (≼_refl (exp_term a n)) (exp_lower_grows b q (suc q) (omega arith))))

  row : (n q : ℕ) → triangle a b n (suc q) ≼ triangle a b (suc n) q
  unfolding triangle
  row n q = ⊕-upper _ _

  triangle_below : (n q m : ℕ) → n + q ≤ m → triangle a b n q ≼ exp_lower (a ⊕ b) m
  triangle_below n zero m l = ≼_trans (to≼ (triangle_is n)) (exp_lower_grows (a ⊕ b) n m (omega arith))
  triangle_below n (suc q) m l = ≼_trans (row n q) (triangle_below (suc n) q m (omega arith))

  -- S_N(a + b) ≤ S_N(a) S_N(b)
  pub sum_below_product : (n : ℕ) → exp_lower (a ⊕ b) n ≼ exp_lower a n ⊗ exp_lower b n
  sum_below_product n = ≼_trans (from≼ (triangle_is n)) (triangle_in_square n 0 n (omega arith))

  -- S_M(a) S_N(b) ≤ S_K(a + b)
  pub product_below_sum : (m n k : ℕ) → m + n ≤ k → exp_lower a m ⊗ exp_lower b n ≼ exp_lower (a ⊕ b) k
  product_below_sum m n k l = ≼_trans (rectangle_in_triangle m n) (triangle_below m n k l)
