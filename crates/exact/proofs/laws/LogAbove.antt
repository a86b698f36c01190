-- t ≤ e^(ln t): every upper bound of the sums of e^ at an upper end of ln t, t ≥ 1, is at least t.
-- From 1 to f in steps of 1/m, the upper end of ln moves from g to g + 1/m by at least 1/(m g + 1), and e^ of that is at
-- least (m g + 2)/(m g + 1): the product of these is (m f + 1)/(m + 1), for every m. Assumes nothing.
use Prim.Native.Nat.{ℕ, zero, suc, ◌+◌, ◌*◌, ◌-◌, ◌^◌, ◌≤◌, ◌<◌}
use Rattle.std.specs.Prelude.{◌≡◌}
use Rattle.std.proofs.Common.{ap, mul-pos, mul-le-mul_right, arith}
use Rattle.std.proofs.Math.Nat.{pow-succ'}
use Rattle.std.proofs.Math.Decide.{dec_le}
use Rattle.exact.specs.Fraction.{Ratio, ◌≼◌, ◌≈◌, Above0, whole, ◌⊕◌, ◌⊗◌, ◌⊖◌, recip, power, sum}
use Rattle.exact.specs.Series.{factorial, exp_term, exp_lower, exp_upper, one_over, even, odd, ln_term, ln_tail, gap, series_upper, exponent, fraction, argument}
use Rattle.exact.specs.LnExp.{ln2_upper, ln_upper}
use Rattle.exact.proofs.laws.Addition.{product_below_sum}
use Rattle.exact.specs.laws.Divisors.{gap_argument, fraction_above, gap_third}
use Rattle.exact.proofs.laws.Exp.{exp_lower_grows}
use Rattle.exact.proofs.laws.Lipschitz.{split, gather, collect, odd_split}
use Rattle.exact.proofs.laws.Equal.{≈-refl}
use Rattle.exact.proofs.laws.Ln.{argument_two, whole_mono}
use Rattle.exact.proofs.laws.LnSeries.{gap_anti, series_upper_mono}
use Rattle.exact.proofs.laws.LogBelow.{steps_to, one_below}
use Rattle.exact.proofs.laws.Octaves.{fraction_one}
use Rattle.exact.specs.laws.Positive.{odd_pos, two_pow_pos}
use Rattle.exact.proofs.laws.Ratio.{exchange, ≼_refl, ≼_trans, to≼, from≼, ⊕-mono, ⊕-assoc, ⊕-upper, ⊗_mono, distrib, recip_anti, power_mono, above_whole, above_one}
use Rattle.exact.specs.laws.Reduction.{Most, Least}
use Rattle.exact.proofs.laws.Reduction.{most_upper, most_mono, least_one, once_more}

-- e^y is at least A: so is every upper bound of its sums
pub record Reaches (y A : Ratio) : Type 0 where
  pub all : (U : Ratio) → Most y U → A ≼ U

pub reaches_upper : {y A : Ratio} → Reaches y A → (n : ℕ) (h : Above0 (whole (suc n) ⊖ y)) → A ≼ exp_upper y n h
reaches_upper {y} r n h = r.all _ (most_upper y n h)

pub reaches_mono : {x y A B : Ratio} → x ≼ y → Reaches x A → B ≼ A → Reaches y B
reaches_mono l r k = record { all = λ U h. ≼_trans k (r.all U (most_mono l h (≼_refl U))) }

pub reaches_least : {y L : Ratio} {t : ℕ} → Least t y L → Reaches y L
reaches_least {t = t} h = record { all = λ U m. ≼_trans h.begin (m.all t) }

-- products
over : (s b U : Ratio) (p : Above0 s) → s ⊗ b ≼ U → b ≼ U ⊗ recip s p
unfolding recip ◌⊗◌
over s b U p h = omega arith

under : (s b U : Ratio) (p : Above0 s) → b ≼ U ⊗ recip s p → b ⊗ s ≼ U
unfolding recip ◌⊗◌
under s b U p h = omega arith

pub reaches_sum : {a b A B : Ratio} → Above0 B → Reaches a A → Reaches b B → Reaches (a ⊕ b) (A ⊗ B)
reaches_sum {a} {b} {A} {B} p r s = record { all = bound }
  where
    row : (U : Ratio) → Most (a ⊕ b) U → (m : ℕ) → B ⊗ exp_lower a (suc m) ≼ U
    row U h m =
        let o : Above0 (exp_lower a (suc m)) = above_one (≼_trans (least_one a).begin (exp_lower_grows a 1 (suc m) (omega arith))) in
        under (exp_lower a (suc m)) B U o
        (s.all _ (record { all = λ n. over _ _ U o (≼_trans (product_below_sum a b (suc m) n (suc m + n) (omega arith)) (h.all (suc m + n))) }))

    bound : (U : Ratio) → Most (a ⊕ b) U → A ⊗ B ≼ U
    bound U h =
        under B A U p
        (r.all _ (record { all = λ m. ≼_trans (exp_lower_grows a m (suc m) (omega arith)) (over B _ U p (row U h m)) }))

-- The upper end of the series rises by at least 2 d/(1 - u²), from u to v ≥ u + d

power_first : (u v d : Ratio) → u ⊕ d ≼ v → u ⊗ whole 1 ⊕ whole 1 ⊗ d ⊗ whole 1 ≼ v ⊗ whole 1
unfolding whole ◌⊕◌ ◌⊗◌
power_first u v d h = omega arith

apart : (A B C D d : Ratio) → A ⊕ C ⊕ d ⊗ (B ⊕ D) ≼ A ⊕ d ⊗ B ⊕ (C ⊕ d ⊗ D)
apart A B C D d = ≼_trans (⊕-mono (≼_refl (A ⊕ C)) (to≼ (distrib d B D))) (from≼ (exchange A (d ⊗ B) C (d ⊗ D)))

nothing_more : (d : Ratio) → whole 0 ⊕ d ⊗ whole 0 ≼ whole 0
unfolding whole ◌⊕◌ ◌⊗◌
nothing_more d = omega arith

-- (U + c d P) (1/c · G) = U (1/c · G) + d (P G)
tail_split : (c : ℕ) (p : 0 < c) (U d P G : Ratio) → U ⊗ (one_over c p ⊗ G) ⊕ d ⊗ (P ⊗ G) ≈ (U ⊕ whole c ⊗ d ⊗ P) ⊗ (one_over c p ⊗ G)
unfolding one_over whole ◌⊕◌ ◌⊗◌
tail_split c p U d P G = omega arith

-- 1/(1 - u²) is the sum of u^(2j), j < n, and u^(2n)/(1 - u²)
geometric_next : (u w : Ratio) (g : Above0 (gap u)) → w ⊗ recip (gap u) g ≼ w ⊕ u ⊗ (u ⊗ w) ⊗ recip (gap u) g
unfolding gap whole recip ◌⊖◌ ◌⊗◌ ◌⊕◌
geometric_next u w g =
    let e : (1 * (u.den * u.den) - u.num * u.num * 1) + u.num * u.num ≡ u.den * u.den = omega arith in
    omega (arith, ap (λ i. i * (w.num * (w.den * w.den) * (u.den * u.den) * (1 * (u.den * u.den) - u.num * u.num * 1))) e)

geometric_first : (G : Ratio) → G ≼ whole 0 ⊕ whole 1 ⊗ G
unfolding whole ◌⊕◌ ◌⊗◌
geometric_first G = omega arith

geometric_all : (u : Ratio) (g : Above0 (gap u)) (n : ℕ) → recip (gap u) g ≼ sum (λ j. power u (even j)) n ⊕ power u (even n) ⊗ recip (gap u) g
unfolding sum even power
geometric_all u g zero = geometric_first (recip (gap u) g)
geometric_all u g (suc n) =
    ≼_trans (geometric_all u g n)
    (≼_trans (⊕-mono (≼_refl _) (geometric_next u (power u (even n)) g)) (from≼ (⊕-assoc _ (power u (even n)) _)))

module _ (u v d : Ratio) (h : u ⊕ d ≼ v) where
  below : u ≼ v
  below = ≼_trans (⊕-upper u d) h

  -- u^(j+1) + (j+1) d u^j ≤ v^(j+1)
  power_rises : (j : ℕ) → power u (suc j) ⊕ whole (suc j) ⊗ d ⊗ power u j ≼ power v (suc j)
  unfolding power
  power_rises zero = power_first u v d h
  power_rises (suc j) =
      ≼_trans (from≼ (collect j d (u ⊗ (u ⊗ power u j)) (u ⊗ power u j)))
      (≼_trans (⊕-mono (from≼ (gather j u d (u ⊗ power u j) (power u j))) (≼_refl (d ⊗ (u ⊗ power u j))))
      (≼_trans (⊕-mono (⊗_mono (≼_refl u) (power_rises j)) (⊗_mono (≼_refl d) (power_mono below (suc j))))
      (≼_trans (from≼ (split u d (v ⊗ power v j))) (⊗_mono h (≼_refl _)))))

  term_rises : (j : ℕ) → ln_term u j ⊕ d ⊗ power u (even j) ≼ ln_term v j
  unfolding ln_term
  term_rises j =
      ≼_trans (from≼ (odd_split (odd j) (odd_pos j) (power u (odd j)) d (power u (even j)))) (⊗_mono (power_rises (even j)) (≼_refl _))

  sum_rises : (n : ℕ) → sum (ln_term u) n ⊕ d ⊗ sum (λ j. power u (even j)) n ≼ sum (ln_term v) n
  unfolding sum
  sum_rises zero = nothing_more d
  sum_rises (suc n) = ≼_trans (apart (sum (ln_term u) n) _ (ln_term u n) (power u (even n)) d) (⊕-mono (sum_rises n) (term_rises n))

  tail_rises : (n : ℕ) (f : Above0 (gap u)) (g : Above0 (gap v)) → ln_tail u n f ⊕ d ⊗ (power u (even n) ⊗ recip (gap u) f) ≼ ln_tail v n g
  unfolding ln_tail
  tail_rises n f g =
      ≼_trans (to≼ (tail_split (odd n) (odd_pos n) (power u (odd n)) d (power u (even n)) (recip (gap u) f)))
      (⊗_mono (power_rises (even n)) (⊗_mono (≼_refl _) (recip_anti g f (gap_anti below g))))

  pub series_rises : (n : ℕ) (f : Above0 (gap u)) (g : Above0 (gap v)) → series_upper u n f ⊕ whole 2 ⊗ (d ⊗ recip (gap u) f) ≼ series_upper v n g
  unfolding series_upper
  series_rises n f g =
      ≼_trans (from≼ (distrib (whole 2) _ _))
      (⊗_mono (≼_refl (whole 2))
      (≼_trans (⊕-mono (≼_refl _) (⊗_mono (≼_refl d) (geometric_all u f n)))
      (≼_trans (apart (sum (ln_term u) n) _ (ln_tail u n f) _ d) (⊕-mono (sum_rises n) (tail_rises n f g)))))

-- Steps of 1/m, m = p + 1

-- (f - 1)/(f + 1) for f = 1 + i/m
place : ℕ → ℕ → Ratio
place p i = record { num = i; den = 2 * suc p + i; positive = omega arith }

place_gap : (p i : ℕ) → Above0 (gap (place p i))
unfolding place gap whole ◌⊖◌ ◌⊗◌
place_gap p i = record { above = go (1 * ((2 * suc p + i) * (2 * suc p + i)) - i * i * 1) (omega arith) }
  where
    go : (z : ℕ) → (2 * suc p + i) * (2 * suc p + i) ≤ z + i * i → 0 < z
    go zero l = absurd (omega arith)
    go (suc z) l = omega arith

-- 2m/((2m+i)(2m+i+1))
move : ℕ → ℕ → Ratio
move p i = record { num = 2 * suc p; den = (2 * suc p + i) * suc (2 * suc p + i); positive = mul-pos {m = 2 * suc p + i} (omega arith) (omega arith) }

moves_core : (i M A B : ℕ) → A ≡ M + i → B ≡ suc A → (i * (A * suc A) + M * A) * B ≤ suc i * (A * (A * suc A))
moves_core i M A B e f = rw f (omega (arith, ap (λ j. j * (A * suc A)) e))

place_moves : (p i : ℕ) → place p i ⊕ move p i ≼ place p (suc i)
unfolding place move ◌⊕◌
place_moves p i = record { cross = moves_core i (2 * suc p) (2 * suc p + i) (2 * suc p + suc i) (omega arith) (omega arith) }

-- 1/(m+i+1) ≤ 2d/(1 - u²)
rises_core : (m i A C Z : ℕ) → A ≡ 2 * m + i → C ≡ suc (m + i) → Z ≡ 4 * (m * (m + i)) → 1 * (1 * (A * suc A * Z)) ≤ 2 * (2 * m * (1 * (A * A))) * C
rises_core m i A C Z e f g =
    let q : suc A * (m + i) ≤ A * C = rw f (omega arith) in
    rw g (omega (arith, mul-le-mul_right (4 * m * A) q))

place_rises : (p i : ℕ) (z : 0 < suc (suc (p + i))) → one_over (suc (suc (p + i))) z ≼ whole 2 ⊗ (move p i ⊗ recip (gap (place p i)) (place_gap p i))
unfolding place move gap one_over whole recip ◌⊖◌ ◌⊗◌
place_rises p i z = record { cross = rises_core (suc p) i (2 * suc p + i) _ _ (omega arith) (omega arith) (omega arith) }

-- e^ reaches (m + i + 1)/(m + 1)
target : ℕ → ℕ → Ratio
target p i = record { num = suc (suc (p + i)); den = suc (suc p); positive = omega arith }

target_first : (p : ℕ) → target p 0 ≼ whole 1
unfolding target whole
target_first p = omega arith

-- 1 + y
second_sum : (j : ℕ) (z : 0 < suc j) → record { num = suc (suc j); den = suc j; positive = z } ≼ exp_lower (one_over (suc j) z) 2
unfolding exp_lower sum exp_term power factorial one_over whole ◌⊕◌ ◌⊗◌
second_sum j z = omega arith

target_next : (p i : ℕ) (z : 0 < suc (suc (p + i))) → target p (suc i) ≼ target p i ⊗ record { num = suc (suc (suc (p + i))); den = suc (suc (p + i)); positive = z }
unfolding target ◌⊗◌
target_next p i z = omega arith

above_target : (j : ℕ) (z : 0 < suc j) → Above0 (record { num = suc (suc j); den = suc j; positive = z })
above_target j z = omega arith

climbs : (p i n : ℕ) → Reaches (series_upper (place p i) n (place_gap p i)) (target p i)
climbs p zero n = reaches_mono (≼_refl _) (reaches_least (least_one _)) (target_first p)
climbs p (suc i) n =
    let z : 0 < suc (suc (p + i)) = omega arith in
    reaches_mono
    (≼_trans (⊕-mono (≼_refl _) (place_rises p i z)) (series_rises (place p i) (place p (suc i)) (move p i) (place_moves p i) n (place_gap p i) (place_gap p (suc i))))
    (reaches_sum (above_target (suc (p + i)) z) (climbs p i n) (reaches_least (record { begin = second_sum (suc (p + i)) z })))
    (target_next p i z)

-- f = a/d is 1 + i/m for m = d K, so that (a K + 1)/(d K + 1) ≤ X/Y for every K, where X/Y is an upper bound
limit : (a d X Y : ℕ) → ((p i : ℕ) → suc p ≡ d * suc X → suc p + i ≡ a * suc X → suc (suc (p + i)) * Y ≤ X * suc (suc p)) → 0 < d → d ≤ a → a * Y ≤ X * d
limit a d X Y h z l =
    let s = steps_to a d (suc X) z (omega arith) l in
    go s.0 s.1 s.2 s.3 (h s.0 s.1 s.2 s.3) (dec_le (a * Y) (X * d))
  where
    go : (p i : ℕ) → suc p ≡ d * suc X → suc p + i ≡ a * suc X → suc (suc (p + i)) * Y ≤ X * suc (suc p) → Dec (a * Y ≤ X * d) → a * Y ≤ X * d
    go p i e f g (yes k) = k
    go p i e f g (no k) =
        let q : suc (X * d) ≤ a * Y = omega arith in
        absurd (omega (arith, mul-le-mul_right (suc X) q, ap (λ j. X * j) e, ap (λ j. j * Y) f))

place_core : (a d w K i m : ℕ) → w + d ≡ a → m ≡ d * K → m + i ≡ a * K → i * (d * 1 * (a * 1 + 1 * d)) ≤ w * (d * 1) * (2 * m + i)
place_core a d w K i m e f g =
    let b : a ≡ w + d = omega arith in
    let s : i ≡ w * K = omega (arith, ap (λ j. j * K) e) in
    rw (s, f, b) (omega arith)

place_below : (f : Ratio) → whole 1 ≼ f → (p i K : ℕ) → suc p ≡ f.den * K → suc p + i ≡ f.num * K → place p i ≼ argument f
unfolding place argument whole recip ◌⊖◌ ◌⊗◌ ◌⊕◌
place_below f l p i K e h =
    record { cross = place_core f.num f.den (f.num * 1 - 1 * f.den) K i (suc p) (omega arith) e h }

bounded : (U : Ratio) (p i : ℕ) → target p i ≼ U → suc (suc (p + i)) * U.den ≤ U.num * suc (suc p)
unfolding target
bounded U p i h = h.cross

-- f ≤ e^(ln f), for the series alone
pub series_reaches : (f : Ratio) → whole 1 ≼ f → (n : ℕ) (g : Above0 (gap (argument f))) → Reaches (series_upper (argument f) n g) f
series_reaches f l n g = record { all = bound }
  where
    bound : (U : Ratio) → Most (series_upper (argument f) n g) U → f ≼ U
    bound U h =
        record {
          cross =
              limit f.num f.den U.num U.den
              (λ p i e k. bounded U p i ((climbs p i n).all U (most_mono (series_upper_mono (place_below f l p i (suc U.num) e k) n (place_gap p i) g) h (≼_refl U))))
              f.positive (one_below f l);
        }

above_product : {x y : Ratio} → Above0 x → Above0 y → Above0 (x ⊗ y)
unfolding ◌⊗◌
above_product {x} {y} h k = record { above = mul-pos h.above k.above }

pub above_power : {x : Ratio} → Above0 x → (k : ℕ) → Above0 (power x k)
unfolding power
above_power h zero = above_whole 0
above_power h (suc k) = above_product h (above_power h k)

-- e^(k a) reaches A^k
pub reaches_times : {a A : Ratio} → Above0 A → Reaches a A → (k : ℕ) → Reaches (whole k ⊗ a) (power A k)
unfolding power
reaches_times {a} p r zero = reaches_least (least_one _)
reaches_times {a} p r (suc k) = reaches_mono (from≼ (once_more k a)) (reaches_sum (above_power p k) r (reaches_times p r k)) (≼_refl _)

-- 2 ≤ e^(ln 2)
pub ln2_reaches : (n : ℕ) → Reaches (ln2_upper n) (whole 2)
unfolding ln2_upper
ln2_reaches n =
    let g : Above0 (gap (argument (whole 2))) = gap_argument (whole 2) (above_whole 1) in
    reaches_mono (series_upper_mono argument_two n g gap_third) (series_reaches (whole 2) (whole_mono 1 2 (omega arith)) n g) (≼_refl _)

-- t = 2^k f
double : (k : ℕ) (P : Ratio) → P ≈ whole (2 ^ k) → whole 2 ⊗ P ≈ whole (2 ^ suc k)
unfolding whole ◌⊗◌
double k P h = rw pow-succ' (omega (arith, h.cross))

pub powers_of_two : (k : ℕ) → power (whole 2) k ≈ whole (2 ^ k)
unfolding power
powers_of_two zero = ≈-refl (whole 1)
powers_of_two (suc k) = double k (power (whole 2) k) (powers_of_two k)

unscaled : (t : Ratio) (K : ℕ) (z : 0 < K) → t ≼ whole K ⊗ (t ⊗ one_over K z)
unfolding one_over whole ◌⊗◌
unscaled t K z = omega arith

octave : (t : Ratio) → t ≼ power (whole 2) (exponent t) ⊗ fraction t
unfolding fraction
octave t = ≼_trans (unscaled t (2 ^ exponent t) (two_pow_pos (exponent t))) (⊗_mono (from≼ (powers_of_two (exponent t))) (≼_refl _))

-- t ≤ e^(ln t)
pub ln_reaches : (t : Ratio) (l : whole 1 ≼ t) (n : ℕ) → Reaches (ln_upper t l n) t
unfolding ln_upper
ln_reaches t l n =
    reaches_mono (≼_refl _)
    (reaches_sum (fraction_above t l) (reaches_times (above_whole 1) (ln2_reaches n) (exponent t)) (series_reaches (fraction t) (fraction_one t l) n _))
    (octave t)

-- every upper end of e^ at every upper end of ln t is at least t
pub exp_ln_above : (t : Ratio) (l : whole 1 ≼ t) (m n : ℕ) (h : Above0 (whole (suc n) ⊖ ln_upper t l m)) → t ≼ exp_upper (ln_upper t l m) n h
exp_ln_above t l m n h = reaches_upper (ln_reaches t l m) n h
