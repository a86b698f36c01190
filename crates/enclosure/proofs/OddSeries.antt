-- The loop of the odd series on plain numbers: the terms from the j-th on, without their common u^(2j+1), are h in S-ths, rounded downward; h lacks at
-- most 5. Assumes nothing.
use mathlib.Core.Path.{◌≡◌, sym, ap, subst, ◌∙◌}
use Prim.Native.Nat.{ℕ, zero, suc, ◌+◌, ◌*◌, ◌/◌, ◌^◌, ◌≤◌, ◌<◌}
use native.Mathlib.Nat.{le_trans, le_of_eq, mul-le-mul, mul-mul-mul_comm, mul_assoc, mul-le-mul_right, le_of_mul-le-mul_right, div-mul-le_self, lt-div-mul-add, div-le_self, le_dest}
use native.Mathlib.Omega.{arith}
use lib.Dec.{lit≤}
use Rattle.exact.specs.Fraction.{Ratio, ◌≼◌, ◌≈◌, Above0, whole, ◌⊕◌, ◌⊗◌, power, sum}
use Rattle.exact.proofs.laws.Ratio.{≼_refl, ≼_trans, ⊕-mono, ⊕-assoc, to≼, from≼}
use Rattle.exact.proofs.laws.Equal.{≈-refl, ≈-trans, ⊕-cong}
use Rattle.exact.proofs.laws.Sums.{after, after_is}
use Rattle.exact.specs.Series.{one_over, even, odd, ln_term, gap, series_lower, series_upper, third}
use Rattle.exact.specs.laws.Positive.{odd_pos}
use Rattle.exact.proofs.laws.LnSeries.{even_is, series_lower_grows, series_lower_upper}
use Rattle.exact.proofs.laws.Width.{after_suc, ninth, series_width}
use Rattle.exact.specs.laws.Fixed.{Lower, Upper}
use Rattle.exact.proofs.laws.Fixed.{lower_sum, upper_sum, lower_product, upper_product}
use Rattle.enclosure.specs.LogSteps.{ratio, Third, Series}

-- Bounds in S-ths

pub lower_to : {S a : ℕ} {x y : Ratio} → x ≼ y → Lower S a x → Lower S a y
lower_to {S} {a} {x} {y} h l =
    record { bound = le_of_mul-le-mul_right {k = x.den} (omega (arith, mul-le-mul_right y.den l.bound, mul-le-mul_right S h.cross)) x.positive }

pub upper_to : {S a : ℕ} {x y : Ratio} → y ≼ x → Upper S a x → Upper S a y
upper_to {S} {a} {x} {y} h l =
    record { bound = le_of_mul-le-mul_right {k = x.den} (omega (arith, mul-le-mul_right y.den l.bound, mul-le-mul_right S h.cross)) x.positive }

pub fewer : {S a b : ℕ} {x : Ratio} → b ≤ a → Lower S a x → Lower S b x
fewer {x = x} h l = record { bound = omega (arith, l.bound, mul-le-mul_right x.den h) }

pub more : {S a b : ℕ} {x : Ratio} → a ≤ b → Upper S a x → Upper S b x
more {x = x} h l = record { bound = omega (arith, l.bound, mul-le-mul_right x.den h) }

abbrev pub S : ℕ
S = 2 ^ 32

-- 1/(2j + 1) + u²(1/(2j + 3) + u²(..)), n terms

unfoldable pub nested : Ratio → ℕ → ℕ → Ratio
nested u j zero = whole 0
nested u j (suc n) = one_over (odd j) (odd_pos j) ⊕ u ⊗ u ⊗ nested u (suc j) n

no_more : (s p : Ratio) → s ≈ s ⊕ p ⊗ whole 0
unfolding whole ◌⊕◌ ◌⊗◌
no_more s p = omega arith

regroup : (p o t u : Ratio) → p ⊗ o ⊕ (u ⊗ (u ⊗ p)) ⊗ t ≈ p ⊗ (o ⊕ u ⊗ u ⊗ t)
unfolding ◌⊕◌ ◌⊗◌
regroup p o t u = omega arith

-- the n terms from the j-th on
from_on : (u : Ratio) (j n : ℕ) → sum (ln_term u) (after j n) ≈ sum (ln_term u) j ⊕ power u (odd j) ⊗ nested u j n
unfolding nested sum ln_term even power
from_on u j zero = no_more _ _
from_on u j (suc n) =
    ≈-trans
    (subst (λ (i : ℕ). sum (ln_term u) i ≈ sum (ln_term u) (suc j) ⊕ power u (odd (suc j)) ⊗ nested u (suc j) n) (after_suc j n) (from_on u (suc j) n))
    (≈-trans (⊕-assoc _ _ _) (⊕-cong (≈-refl _) (regroup (power u (odd j)) _ _ u)))

nothing_more : (u x : Ratio) → whole 0 ⊕ u ⊗ whole 1 ⊗ x ≈ u ⊗ x
unfolding whole ◌⊕◌ ◌⊗◌
nothing_more u x = omega arith

nine_terms : (u : Ratio) → sum (ln_term u) 9 ≈ u ⊗ nested u 0 9
unfolding sum even power
nine_terms u = ≈-trans (from_on u 0 9) (nothing_more u (nested u 0 9))

nothing_lower : {T : ℕ} → Lower T 0 (whole 0)
unfolding whole
nothing_lower = omega arith

nothing_upper : {T : ℕ} → Upper T 5 (whole 0)
unfolding whole
nothing_upper = omega arith

-- S/n
over_lower : (n : ℕ) (z : 0 < n) → Lower S (S / n) (one_over n z)
unfolding one_over
over_lower n z = record { bound = omega (arith, div-mul-le_self S n) }

over_upper : (n : ℕ) (z : 0 < n) → Upper S (S / n + 1) (one_over n z)
unfolding one_over
over_upper n z = record { bound = omega (arith, lt-div-mul-add {a = S} z) }

pub record Inv (u : Ratio) (w v h j : ℕ) : Type 0 where
  pub within : j ≤ 9
  pub w_fits : 3 * w ≤ S
  pub v_fits : 9 * v ≤ S
  pub h_fits : 8 * h ≤ 9 * S
  pub u_low : Lower S w u
  pub u_high : Upper S (w + 1) u
  pub square_low : Lower S v (u ⊗ u)
  pub square_high : Upper S (v + 2) (u ⊗ u)
  pub low : (n : ℕ) → n + j ≡ 9 → Lower S h (nested u j n)
  pub high : (n : ℕ) → n + j ≡ 9 → Upper S (h + 5) (nested u j n)

-- before the loop: u and its square
module _ (a b : ℕ) (t : Third a b) (z : 0 < b) where
  abbrev U : ℕ
  U = a * S / b

  at_low : Lower S U (ratio a b z)
  unfolding ratio
  at_low = record { bound = div-mul-le_self (a * S) b }

  at_high : Upper S (U + 1) (ratio a b z)
  unfolding ratio
  at_high = let high = lt-div-mul-add {a = a * S} {b = b} z in record { bound = omega arith }

  pub u_small : 3 * U ≤ S
  u_small =
      let low = div-mul-le_self (a * S) b in
      let left : 3 * U * b ≡ 3 * (U * b) = mul_assoc 3 U b in
      le_of_mul-le-mul_right {m = 3 * U} {n = S} {k = b} (omega (arith, t.third)) z

  pub squares : 9 * (U * U) ≤ S * S
  squares = le_trans (le_of_eq (sym (mul-mul-mul_comm 3 U 3 U))) (mul-le-mul u_small u_small)

  v_high : Upper S (U * U / S + 2) (ratio a b z ⊗ ratio a b z)
  v_high =
      let e : (U + 1) * (U + 1) ≡ U * U + 2 * U + 1 = omega arith in
      let d : suc ((U + 1) * (U + 1) / S) ≤ U * U / S + 2 = omega (arith, u_small) in
      more d (upper_product (omega arith) at_high at_high)

  none : (n : ℕ) → n + 9 ≡ 9 → n ≡ 0
  none n e = omega arith

  pub first : Inv (ratio a b z) U (U * U / S) 0 9
  unfolding nested
  first =
      record {
        within = omega arith;
        w_fits = u_small;
        v_fits = omega (arith, squares);
        h_fits = omega arith;
        u_low = at_low;
        u_high = at_high;
        square_low = lower_product (omega arith) at_low at_low;
        square_high = v_high;
        low = λ n e. rw (none n e) nothing_lower;
        high = λ n e. rw (none n e) nothing_upper;
      }

-- a product of the square with what is nested: h lacks at most 5, and the product at most 4
pub product_small : (v h : ℕ) → 9 * v ≤ S → 8 * h ≤ 9 * S → 8 * (v * h) ≤ S * S
product_small v h k l = omega (arith, mul-le-mul k l)

product_high : (v h : ℕ) {x y : Ratio} → 9 * v ≤ S → 8 * h ≤ 9 * S → Upper S (v + 2) x → Upper S (h + 5) y → Upper S (v * h / S + 4) (x ⊗ y)
product_high v h k l m n =
    let e : (v + 2) * (h + 5) ≡ v * h + 5 * v + 2 * h + 10 = omega arith in
    let d : suc ((v + 2) * (h + 5) / S) ≤ v * h / S + 4 = omega arith in
    more d (upper_product (omega arith) m n)

-- one turn, from j to i = j - 1
pub again : (u : Ratio) (w v h j i : ℕ) → Inv u w v h j → j ≡ suc i → Inv u w v (v * h / S + S / (2 * i + 1)) i
unfolding nested
again u w v h j i s q =
    record {
      within = omega (arith, s.within);
      w_fits = s.w_fits;
      v_fits = s.v_fits;
      h_fits = omega (arith, product_small v h s.v_fits s.h_fits, div-le_self S (2 * i + 1));
      u_low = s.u_low;
      u_high = s.u_high;
      square_low = s.square_low;
      square_high = s.square_high;
      low = λ n e. low n e;
      high = λ n e. high n e;
    }
  where
    o : odd i ≡ 2 * i + 1
    o = omega (arith, even_is i)

    low : (n : ℕ) → n + i ≡ 9 → Lower S (v * h / S + S / (2 * i + 1)) (nested u i n)
    low zero e = absurd (omega (arith, s.within))
    low (suc n) e =
        let k : n + j ≡ 9 = omega arith in
        let inner : Lower S h (nested u (suc i) n) = rw q at (s.low n k) in
        fewer (omega (arith, ap (λ (d : ℕ). S / d) o)) (lower_sum (over_lower (odd i) (odd_pos i)) (lower_product (omega arith) s.square_low inner))

    high : (n : ℕ) → n + i ≡ 9 → Upper S (v * h / S + S / (2 * i + 1) + 5) (nested u i n)
    high zero e = absurd (omega (arith, s.within))
    high (suc n) e =
        let k : n + j ≡ 9 = omega arith in
        let inner : Upper S (h + 5) (nested u (suc i) n) = rw q at (s.high n k) in
        more (omega (arith, ap (λ (d : ℕ). S / d) o))
        (upper_sum (over_upper (odd i) (odd_pos i)) (product_high v h s.v_fits s.h_fits s.square_high inner))

-- u times what is nested from the first term on
pub last_small : (w h : ℕ) → 3 * w ≤ S → 8 * h ≤ 9 * S → 8 * (w * h) ≤ 3 * S * S
last_small w h k l = omega (arith, mul-le-mul k l)

sum_low : {u : Ratio} {w v h : ℕ} → Inv u w v h 0 → Lower S (w * h / S) (sum (ln_term u) 9)
sum_low {u} i = lower_to (from≼ (nine_terms u)) (lower_product (omega arith) i.u_low (i.low 9 (omega arith)))

sum_high : {u : Ratio} {w v h : ℕ} → Inv u w v h 0 → Upper S (w * h / S + 4) (sum (ln_term u) 9)
sum_high {u} {w} {v} {h} i =
    let e : (w + 1) * (h + 5) ≡ w * h + 5 * w + h + 5 = omega arith in
    let d : suc ((w + 1) * (h + 5) / S) ≤ w * h / S + 4 = omega (arith, i.w_fits, i.h_fits) in
    upper_to (to≼ (nine_terms u)) (more d (upper_product (omega arith) i.u_high (i.high 9 (omega arith))))

-- after the loop: twice the sum, in 2^-30; beyond nine terms lie at most 1/9^9

scale_low : (s : ℕ) (x : Ratio) → Lower S s x → Lower (2 ^ 30) (s / 2) (whole 2 ⊗ x)
unfolding whole ◌⊗◌
scale_low s x h =
    let d : s / 2 * 2 ≤ s = div-mul-le_self s 2 in
    record { bound = omega (arith, h.bound, mul-le-mul_right x.den d) }

scale_high : (s : ℕ) (x : Ratio) → Upper S (s + 4) x → Upper (2 ^ 30) (s / 2 + 3) (whole 2 ⊗ x)
unfolding whole ◌⊗◌
scale_high s x h =
    let d : s + 4 ≤ (s / 2 + 3) * 2 = omega arith in
    record { bound = omega (arith, h.bound, mul-le-mul_right x.den d) }

ninth_less : (x : Ratio) → ninth ⊗ x ≼ x
unfolding ninth one_over ◌⊗◌
ninth_less x = omega arith

ninth_falls : (m k : ℕ) → power ninth (after m k) ≼ power ninth m
unfolding power
ninth_falls m zero = ≼_refl _
ninth_falls m (suc k) = ≼_trans (ninth_less (power ninth (after m k))) (ninth_falls m k)

pub upper_near : (u : Ratio) → u ≼ third → (h : Above0 (gap u)) (m n : ℕ) → m ≤ n
    → series_upper u n h ≼ series_lower u m ⊕ power ninth m ⊕ power ninth n
upper_near u l h m n k =
    ≼_trans (series_width u l h n) (⊕-mono (≼_trans (series_lower_upper u n m h) (series_width u l h m)) (≼_refl _))

pub ninth_from : (m n : ℕ) → m ≤ n → power ninth n ≼ power ninth m
ninth_from m n h =
    let d : (k : ℕ) × (m + k ≡ n) = le_dest h in
    subst (λ (i : ℕ). power ninth i ≼ power ninth m) (after_is m d.0 ∙ d.1) (ninth_falls m d.0)

-- 2^30 (1/9^9 + 1/9^20) < 3
ninths : Upper (2 ^ 30) 3 (power ninth 9 ⊕ power ninth 20)
unfolding power ninth one_over whole ◌⊕◌ ◌⊗◌
ninths = record { bound = lit≤ tt }

assoc : (x y z : Ratio) → x ⊕ y ⊕ z ≼ x ⊕ (y ⊕ z)
assoc x y z = to≼ (⊕-assoc x y z)

below_third : (a b : ℕ) (t : Third a b) (z : 0 < b) → ratio a b z ≼ third
unfolding ratio third one_over
below_third a b t z = record { cross = omega (arith, t.third) }

last : (a b w v h : ℕ) (t : Third a b) → ((z : 0 < b) → Inv (ratio a b z) w v h 0) → Series a b (w * h / S / 2)
unfolding series_lower
last a b w v h t i =
    record {
      below = λ z n k. low z n k;
      above = λ z n k g. high z n k g;
      small = omega (arith, last_small w h (i t.some).w_fits (i t.some).h_fits);
    }
  where
    low : (z : 0 < b) (n : ℕ) → 20 ≤ n → Lower (2 ^ 30) (w * h / S / 2) (series_lower (ratio a b z) n)
    low z n k = lower_to (series_lower_grows (ratio a b z) 9 n (omega arith)) (scale_low _ _ (sum_low (i z)))

    high : (z : 0 < b) (n : ℕ) → 20 ≤ n → (g : Above0 (gap (ratio a b z))) → Upper (2 ^ 30) (w * h / S / 2 + 6) (series_upper (ratio a b z) n g)
    high z n k g =
        upper_to
        (≼_trans (upper_near (ratio a b z) (below_third a b t z) g 9 n (omega arith)) (≼_trans (⊕-mono (≼_refl _) (ninth_from 20 n k)) (assoc _ _ _)))
        (more (omega arith) (upper_sum (scale_high _ _ (sum_high (i z))) ninths))

-- what holds at the head of the loop
pub record At (a b w v h j : ℕ) : Type 0 where
  pub third : Third a b
  pub inv : (z : 0 < b) → Inv (ratio a b z) w v h j

pub now : {a b w v h j : ℕ} (i : At a b w v h j) → Inv (ratio a b i.third.some) w v h j
now i = i.inv i.third.some

pub finish : {a b w v h j : ℕ} → At a b w v h j → j ≡ 0 → Series a b (w * h / S / 2)
finish {a} {b} {w} {v} {h} i e = last a b w v h i.third λ z. subst (λ (k : ℕ). Inv (ratio a b z) w v h k) e (i.inv z)
