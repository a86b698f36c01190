-- The ends of ln and e^ at a signed fraction in terms of fractions from 0 up, on both sides of 1 and of 0, and steps of
-- containment for a constant factor and for e^. Assumes nothing.
use Rattle.std.specs.Prelude.{ℕ, zero, suc, ◌*◌, ◌-◌, ◌≤◌, ◌≡◌, refl}
use Rattle.std.proofs.Math.Option.{some}
use Rattle.std.proofs.Common.{mul-le-mul_right, arith}
use Rattle.exact.specs.Fraction.{Ratio, ◌≼◌, ◌≈◌, Above0, whole, ◌⊕◌, ◌⊗◌, ◌⊖◌, recip, power, Frac, ◌⊑◌, Positive, zero_f, ◌⊠◌, neg, of_ratio, magnitude, one_f, inverse}
use Rattle.exact.specs.Bracket.{Bracket}
use Rattle.exact.specs.Series.{exp_term, exp_lower, exp_tail, exp_upper}
use Rattle.exact.specs.LnExp.{ln_lower, ln_upper, ln_lower_at, ln_upper_at, exp_lower_at, exp_upper_at}
use Rattle.exact.specs.Formula.{Formula, const, mul, exp, bracket_at}
use Rattle.exact.specs.laws.Containment.{Inside}
use Rattle.exact.specs.laws.Decide.{dec_f, decided}
use Rattle.exact.specs.laws.Divisors.{one_magnitude}
use Rattle.exact.proofs.laws.EndsMeet.{signed, of_ratio_mono, one_below_exp, recip_below_one}
use Rattle.exact.proofs.laws.Exp.{exp_lower_mono, exp_upper_mono}
use Rattle.exact.proofs.laws.Frac.{scale_mono, ⊑_refl, ⊑_trans, smaller_glb, larger_lub, neg_anti}
use Rattle.exact.proofs.laws.Ln.{ln_lower_mono, ln_upper_mono}
use Rattle.exact.proofs.laws.Pairs.{⊠-monotone}
use Rattle.exact.proofs.laws.Ratio.{≼_refl, ≼_trans, to≼, from≼, ⊗_mono, recip_anti, above_mono, ⊖-anti}
use Rattle.exact.specs.laws.Reduction.{LowerEnd, UpperEnd}
use Rattle.exact.proofs.laws.Reduction.{least_one, least_all, most_zero, room, lower_from, upper_if, lower_if, upper_one_over}
use Rattle.exact.proofs.laws.Inclusion.{binary_inside, const_inside, exp_inside}

abbrev pub point : Frac → Bracket
point c = record { lo = c; hi = c }

pub point_inside : (c : Frac) (n : ℕ) → Inside (bracket_at (const c) n) (some (point c))
point_inside c n = const_inside c n (point c) (record { above = ⊑_refl c; below = ⊑_refl c })

-- A constant c ≥ 0 times a bracket of any sign
pub scale_inside : (c : Frac) → zero_f ⊑ c → (y : Formula) (n : ℕ) (J K : Bracket) → Inside (bracket_at y n) (some J)
    → K.lo ⊑ c ⊠ J.lo → c ⊠ J.hi ⊑ K.hi → Inside (bracket_at (mul (const c) y) n) (some K)
unfolding bracket_at
scale_inside c z y n J K h a b =
    binary_inside (const c) y n (point_inside c n) h
    λ p q i j.
    let m = ⊠-monotone.left q i.above i.below in
    record {
      above = ⊑_trans a (⊑_trans (scale_mono z j.above) (⊑_trans (smaller_glb (⊑_refl (c ⊠ q)) (⊑_refl (c ⊠ q))) m.above));
      below = ⊑_trans m.below (⊑_trans (larger_lub (⊑_refl (c ⊠ q)) (⊑_refl (c ⊠ q))) (⊑_trans (scale_mono z j.below) b));
    }

-- fractions as signed fractions

pub signed_above : (x : Ratio) → zero_f ⊑ of_ratio x
unfolding zero_f of_ratio
signed_above x = omega arith

pub signed_least : (x : Ratio) → x ≼ magnitude (of_ratio x)
unfolding of_ratio magnitude
signed_least x = let e : x.num - 0 ≡ x.num = omega arith in record { cross = rw e (omega arith) }

pub signed_most : (x : Ratio) → magnitude (of_ratio x) ≼ x
unfolding of_ratio magnitude
signed_most x = let e : x.num - 0 ≡ x.num = omega arith in record { cross = rw e (omega arith) }

pub signed_product : (x y : Ratio) → of_ratio (x ⊗ y) ⊑ of_ratio x ⊠ of_ratio y
unfolding of_ratio ◌⊗◌ ◌⊠◌
signed_product x y = omega arith

pub product_signed : (x y : Ratio) → of_ratio x ⊠ of_ratio y ⊑ of_ratio (x ⊗ y)
unfolding of_ratio ◌⊗◌ ◌⊠◌
product_signed x y = omega arith

pub negated_product : (x y : Ratio) → neg (of_ratio (x ⊗ y)) ⊑ of_ratio x ⊠ neg (of_ratio y)
unfolding of_ratio neg ◌⊗◌ ◌⊠◌
negated_product x y = omega arith

pub product_negated : (x y : Ratio) → of_ratio x ⊠ neg (of_ratio y) ⊑ neg (of_ratio (x ⊗ y))
unfolding of_ratio neg ◌⊗◌ ◌⊠◌
product_negated x y = omega arith

pub positive_of : (x : Ratio) → Above0 x → Positive (of_ratio x)
unfolding of_ratio
positive_of x h = record { above = h.above }

pub inverse_least : (x : Ratio) (h : Above0 x) (q : Positive (of_ratio x)) → of_ratio (recip x h) ⊑ inverse (of_ratio x) q
unfolding of_ratio recip inverse
inverse_least x h q = let e : x.num - 0 ≡ x.num = omega arith in record { cross = rw e (omega arith) }

pub inverse_most : (x : Ratio) (h : Above0 x) (q : Positive (of_ratio x)) → inverse (of_ratio x) q ⊑ of_ratio (recip x h)
unfolding of_ratio recip inverse
inverse_most x h q = let e : x.num - 0 ≡ x.num = omega arith in record { cross = rw e (omega arith) }

-- The ends of e^ at a fraction and at its negative

pub lower_at : (y : Ratio) (n : ℕ) → LowerEnd (exp_lower_at (of_ratio y) n) (exp_lower y n)
lower_at y n = lower_from {t = n} (of_ratio y) (signed_above y) (record { begin = exp_lower_mono (signed_least y) n }) n (omega arith)

less : (y : Ratio) {x : Ratio} (n : ℕ) → Above0 (whole (suc n) ⊖ y) → x ≼ y → Above0 (whole (suc n) ⊖ x)
less y n g l = above_mono g (⊖-anti (whole (suc n)) l g)

pub upper_at : (y : Ratio) (n : ℕ) (g : Above0 (whole (suc n) ⊖ y)) → UpperEnd (exp_upper_at (of_ratio y) n) (exp_upper y n g)
unfolding exp_upper_at
upper_at y n g =
    decided (λ o. UpperEnd (signed o) (exp_upper y n g)) (dec_f zero_f (of_ratio y))
    (λ i. upper_if (magnitude (of_ratio y)) n (less y n g (signed_most y)) (λ f. exp_upper_mono (signed_most y) n f g))
    (λ i. absurd (i (signed_above y)))

negated_zero : (y : Ratio) → magnitude (neg (of_ratio y)) ≼ whole 0
unfolding of_ratio neg magnitude whole
negated_zero y = let e : 0 - y.num ≡ 0 = omega arith in record { cross = rw e (omega arith) }

zero_or : (y : Ratio) → zero_f ⊑ neg (of_ratio y) → y ≼ whole 0
unfolding zero_f of_ratio neg whole
zero_or y h = omega arith

twice_least : (y : Ratio) → y ≼ magnitude (neg (neg (of_ratio y)))
unfolding neg
twice_least y = signed_least y

twice_most : (y : Ratio) → magnitude (neg (neg (of_ratio y))) ≼ y
unfolding neg
twice_most y = signed_most y

recip_product : (x : Ratio) (p : Above0 x) → recip x p ⊗ x ≈ whole 1
unfolding whole recip ◌⊗◌
recip_product x p = omega arith

recip_above_one : (x : Ratio) (p : Above0 x) → x ≼ whole 1 → whole 1 ≼ recip x p
unfolding whole recip
recip_above_one x p l = omega arith

pub lower_at_negative : (y : Ratio) (n : ℕ) → 1 ≤ n → (g : Above0 (whole (suc n) ⊖ y)) (p : Above0 (exp_upper y n g))
    → LowerEnd (exp_lower_at (neg (of_ratio y)) n) (recip (exp_upper y n g) p)
unfolding exp_lower_at
lower_at_negative y n o g p =
    decided (λ o. LowerEnd (signed o) (recip (exp_upper y n g) p)) (dec_f zero_f (neg (of_ratio y)))
    (λ i.
    record {
      end = of_ratio (exp_lower (magnitude (neg (of_ratio y))) n);
      is = refl;
      bound = of_ratio_mono (≼_trans (recip_below_one _ p (one_below_exp y n g)) (least_all (least_one _) n o));
    })
    λ i.
    lower_if (magnitude (neg (neg (of_ratio y)))) _ n (less y n g (twice_most y))
    λ f. ≼_trans (⊗_mono (≼_refl _) (exp_upper_mono (twice_most y) n f g)) (to≼ (recip_product (exp_upper y n g) p))

-- e^0 = 1
zero_tail : (P F G S : Ratio) → S ≼ whole 1 → S ⊕ whole 0 ⊗ P ⊗ F ⊗ G ≼ whole 1
unfolding whole ◌⊕◌ ◌⊗◌
zero_tail P F G S h = omega (arith, mul-le-mul_right (P.den * F.den * G.den) h.cross)

zero_upper : (n : ℕ) → 1 ≤ n → (g : Above0 (whole (suc n) ⊖ whole 0)) → exp_upper (whole 0) n g ≼ whole 1
unfolding exp_upper exp_tail exp_term power
zero_upper zero o g = absurd (omega arith)
zero_upper (suc n) o g = zero_tail _ _ _ _ (most_zero.all (suc n))

pub upper_at_negative : (y : Ratio) (n : ℕ) → 1 ≤ n → (p : Above0 (exp_lower y n)) → UpperEnd (exp_upper_at (neg (of_ratio y)) n) (recip (exp_lower y n) p)
unfolding exp_upper_at
upper_at_negative y n o p =
    decided (λ o. UpperEnd (signed o) (recip (exp_lower y n) p)) (dec_f zero_f (neg (of_ratio y)))
    (λ i.
    let r : Above0 (whole (suc n) ⊖ whole 0) = room (whole 0) 0 n (≼_refl _) (omega arith) in
    upper_if (magnitude (neg (of_ratio y))) n (less (whole 0) n r (negated_zero y))
    λ f.
    ≼_trans (exp_upper_mono (negated_zero y) n f r)
    (≼_trans (zero_upper n o r) (recip_above_one _ p (≼_trans (exp_lower_mono (zero_or y i) n) (most_zero.all n)))))
    λ i.
    upper_one_over (exp_lower (magnitude (neg (neg (of_ratio y)))) n) _ (above_mono p (exp_lower_mono (twice_least y) n))
    (≼_trans (from≼ (recip_product (exp_lower y n) p)) (⊗_mono (≼_refl _) (exp_lower_mono (twice_least y) n)))

abbrev pub pair : Frac → Frac → Bracket
pair l h = record { lo = l; hi = h }

-- The ends of ln t

pub ln_low_above : (t : Frac) (o : one_f ⊑ t) (n : ℕ) (p : Positive t) → of_ratio (ln_lower (magnitude t) n) ⊑ ln_lower_at t p n
unfolding ln_lower_at
ln_low_above t o n p = decided (λ x. of_ratio (ln_lower (magnitude t) n) ⊑ x) (dec_f one_f t) (λ i. ⊑_refl _) (λ i. absurd (i o))

pub ln_high_above : (t : Frac) (o : one_f ⊑ t) (n : ℕ) (p : Positive t) → ln_upper_at t p n ⊑ of_ratio (ln_upper (magnitude t) (one_magnitude o) n)
unfolding ln_upper_at
ln_high_above t o n p =
    decided (λ x. x ⊑ of_ratio (ln_upper (magnitude t) (one_magnitude o) n)) (dec_f one_f t)
    (λ i. of_ratio_mono (ln_upper_mono _ _ _ _ (≼_refl (magnitude t)) n)) (λ i. absurd (i o))

module _ (t : Frac) (b : ¬ (one_f ⊑ t)) (u : Above0 (magnitude t)) (o : whole 1 ≼ recip (magnitude t) u) (n : ℕ) (p : Positive t) where
  pub ln_low_below : neg (of_ratio (ln_upper (recip (magnitude t) u) o n)) ⊑ ln_lower_at t p n
  unfolding ln_lower_at
  ln_low_below =
      decided (λ x. neg (of_ratio (ln_upper (recip (magnitude t) u) o n)) ⊑ x) (dec_f one_f t) (λ i. absurd (b i))
      (λ i. neg_anti (of_ratio_mono (ln_upper_mono _ _ _ _ (recip_anti _ _ (≼_refl (magnitude t))) n)))

  pub ln_high_below : ln_upper_at t p n ⊑ neg (of_ratio (ln_lower (recip (magnitude t) u) n))
  unfolding ln_upper_at
  ln_high_below =
      decided (λ x. x ⊑ neg (of_ratio (ln_lower (recip (magnitude t) u) n))) (dec_f one_f t) (λ i. absurd (b i))
      (λ i. neg_anti (of_ratio_mono (ln_lower_mono _ _ o (recip_anti _ _ (≼_refl (magnitude t))) n)))

-- e^ of a bracket with the ends at I's
pub exp_of : (x : Formula) (j : ℕ) (I : Bracket) {L U : Ratio} → Inside (bracket_at x (suc j)) (some I) → LowerEnd (exp_lower_at I.lo (suc j)) L
    → UpperEnd (exp_upper_at I.hi (suc j)) U → Inside (bracket_at (exp x) (suc j)) (some (pair (of_ratio L) (of_ratio U)))
exp_of x j I h l u = exp_inside x j I _ l.end u.end h l.is u.is l.bound u.bound
