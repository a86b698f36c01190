-- THE NESTING THEOREM: from the first N that has one, every N has a bracket of a formula, and it lies inside those before it.
-- The lower ends of ln and e^ rise with N and their upper ends fall. Assumes nothing.
use Rattle.std.specs.Prelude.{ℕ, zero, suc, ◌≤◌}
use Rattle.std.proofs.Math.Option.{Option, none, some}
use Rattle.std.proofs.Common.{arith}
use Rattle.exact.specs.Fraction.{Ratio, Above0, Frac, ◌⊑◌, Positive, zero_f, one_f, magnitude, neg}
use Rattle.exact.specs.Bracket.{Bracket}
use Rattle.exact.specs.Series.{exp_lower, exp_upper}
use Rattle.exact.specs.LnExp.{ln_lower_at, ln_upper_at, exp_upper_of, one_over_of, exp_lower_at, exp_upper_at}
use Rattle.exact.specs.Formula.{Formula, const, add, sub, mul, div, least, ln, exp, bracket_at, ◌>>◌, quotient_b, ln_b, exp_b}
use Rattle.exact.specs.laws.Containment.{Inside}
use Rattle.exact.proofs.laws.Containment.{Isotone, AtMost, AtLeast, AtMostOf, AtLeastOf, pairs_inside, then_inside, ln_isotone, exp_isotone, one_below_lower, recip_least, recip_most, ends_inside}
use Rattle.exact.specs.laws.Decide.{dec_f, dec_positives, dec_above0, decided, decided₂, decided_both}
use Rattle.exact.proofs.laws.EndsMeet.{of_ratio_mono, one_below_exp}
use Rattle.exact.proofs.laws.Exp.{exp_lower_grows, exp_room_grows, exp_upper_falls}
use Rattle.exact.proofs.laws.Frac.{⊑_refl, ⊑_trans, neg_anti}
use Rattle.exact.proofs.laws.Ln.{ln_lower_grows, ln_upper_falls}
use Rattle.exact.proofs.laws.Meeting.{Meets, meeting}
use Rattle.exact.proofs.laws.Pairs.{quotients_hold, ⊞-monotone, ⊟-monotone, ⊠-monotone, smaller_monotone}
use Rattle.exact.proofs.laws.Ratio.{above_one}
use Rattle.exact.proofs.laws.Inclusion.{binary_quotient}

-- The ends at signed fractions

module _ (m n : ℕ) (l : m ≤ n) where
  pub ln_lower_at_grows : (t : Frac) (h : Positive t) → ln_lower_at t h m ⊑ ln_lower_at t h n
  unfolding ln_lower_at
  ln_lower_at_grows t h =
      decided_both ◌⊑◌ (dec_f one_f t) (λ i. of_ratio_mono (ln_lower_grows _ m n l)) (λ i. neg_anti (of_ratio_mono (ln_upper_falls _ _ m n l)))

  pub ln_upper_at_falls : (t : Frac) (h : Positive t) → ln_upper_at t h n ⊑ ln_upper_at t h m
  unfolding ln_upper_at
  ln_upper_at_falls t h =
      decided_both ◌⊑◌ (dec_f one_f t) (λ i. of_ratio_mono (ln_upper_falls _ _ m n l)) (λ i. neg_anti (of_ratio_mono (ln_lower_grows _ m n l)))

  upper_of_falls : (y : Ratio) → AtLeastOf (exp_upper_of y m) (exp_upper_of y n)
  unfolding exp_upper_of
  upper_of_falls y =
      decided₂ AtLeastOf (dec_above0 _) (dec_above0 _)
      (λ h k. of_ratio_mono (exp_upper_falls y m n l h k)) (λ h k. k (exp_room_grows y m n l h)) (λ h k. tt) (λ h k. tt)

  recip_of_rises : (y : Ratio) → AtMostOf (one_over_of (exp_upper_of y m)) (one_over_of (exp_upper_of y n))
  unfolding exp_upper_of one_over_of
  recip_of_rises y =
      decided₂ (λ a b. AtMostOf (one_over_of a) (one_over_of b)) (dec_above0 _) (dec_above0 _)
      (λ h k. recip_least (exp_upper y m h) (exp_upper y n k) (above_one (one_below_exp y n k)) (exp_upper_falls y m n l h k))
      (λ h k. absurd (k (exp_room_grows y m n l h)))
      (λ h k. tt)
      (λ h k. tt)

  -- where the earlier end is there, so is the later
  pub exp_lower_at_grows : (y : Frac) → AtMost (exp_lower_at y m) (exp_lower_at y n)
  unfolding exp_lower_at
  exp_lower_at_grows y =
      decided_both AtMostOf (dec_f zero_f y) (λ i. of_ratio_mono (exp_lower_grows _ m n l)) (λ i. recip_of_rises (magnitude (neg y)))

above_lower : (y : Ratio) (n : ℕ) → 1 ≤ n → Above0 (exp_lower y n)
above_lower y zero o = absurd (omega arith)
above_lower y (suc k) o = above_one (one_below_lower y k)

pub exp_upper_at_falls : (m n : ℕ) → 1 ≤ m → m ≤ n → (y : Frac) → AtLeast (exp_upper_at y m) (exp_upper_at y n)
unfolding exp_upper_at
exp_upper_at_falls m n o l y =
    decided_both AtLeastOf (dec_f zero_f y) (λ i. upper_of_falls m n l (magnitude y))
    (λ i. recip_most _ _ (above_lower _ n (omega arith)) (exp_lower_grows _ m n l))

-- Brackets

inside_trans : (x y z : Option Bracket) → Inside x y → Inside y z → Inside x z
inside_trans x y none h k = tt
inside_trans x none (some K) h k = absurd k
inside_trans none (some J) (some K) h k = h
inside_trans (some I) (some J) (some K) h k = record { above = ⊑_trans k.above h.above; below = ⊑_trans h.below k.below }

ln_nested : (m n : ℕ) → m ≤ n → (x : Option Bracket) → Inside (x >> ln_b n) (x >> ln_b m)
unfolding ◌>>◌ ln_b
ln_nested m n l none = tt
ln_nested m n l (some I) =
    decided_both Inside (dec_positives I.lo I.hi)
    (λ d. record { above = ln_lower_at_grows m n l I.lo d.0; below = ln_upper_at_falls m n l I.hi d.1 }) (λ d. tt)

exp_nested : (m n : ℕ) → 1 ≤ m → m ≤ n → (x : Option Bracket) → Inside (x >> exp_b n) (x >> exp_b m)
unfolding ◌>>◌ exp_b
exp_nested m n o l none = tt
exp_nested m n o l (some I) = ends_inside _ _ _ _ (exp_lower_at_grows m n l I.lo) (exp_upper_at_falls m n o l I.hi)

exp_isotone_from : (n : ℕ) → 1 ≤ n → Isotone (exp_b n)
exp_isotone_from zero o = absurd (omega arith)
exp_isotone_from (suc k) o = exp_isotone k

pub quotients_inside : (x y i j : Option Bracket) → Meets x x → Meets y y → Inside x i → Inside y j
    → Inside (x >> (λ A. y >> quotient_b A)) (i >> (λ I. j >> quotient_b I))
unfolding ◌>>◌ quotient_b
quotients_inside x y none j v w h k = tt
quotients_inside x y (some I) none v w h k = tt
quotients_inside x y (some I) (some J) v w h k =
    decided (λ o. Inside (x >> (λ A. y >> quotient_b A)) o) (dec_positives J.lo J.hi)
    (λ d. binary_quotient x y v w h k d.0 (λ p q a b z. quotients_hold a b z d.0 d.1)) (λ d. tt)

-- the N-th bracket, N ≥ M ≥ 1, lies inside the M-th where that is there
pub nested : (x : Formula) (m n : ℕ) → 1 ≤ m → m ≤ n → Inside (bracket_at x n) (bracket_at x m)
unfolding bracket_at
nested (const c) m n o l = record { above = ⊑_refl c; below = ⊑_refl c }
nested (add x y) m n o l = pairs_inside ⊞-monotone _ _ _ _ (meeting x n n) (meeting y n n) (nested x m n o l) (nested y m n o l)
nested (sub x y) m n o l = pairs_inside ⊟-monotone _ _ _ _ (meeting x n n) (meeting y n n) (nested x m n o l) (nested y m n o l)
nested (mul x y) m n o l = pairs_inside ⊠-monotone _ _ _ _ (meeting x n n) (meeting y n n) (nested x m n o l) (nested y m n o l)
nested (div x y) m n o l = quotients_inside _ _ _ _ (meeting x n n) (meeting y n n) (nested x m n o l) (nested y m n o l)
nested (least x y) m n o l = pairs_inside smaller_monotone _ _ _ _ (meeting x n n) (meeting y n n) (nested x m n o l) (nested y m n o l)
nested (ln x) m n o l =
    inside_trans (bracket_at x n >> ln_b n) (bracket_at x m >> ln_b n) (bracket_at x m >> ln_b m)
    (then_inside (ln_b n) (ln_isotone n) (bracket_at x n) (bracket_at x m) (meeting x n n) (nested x m n o l))
    (ln_nested m n l (bracket_at x m))
nested (exp x) m n o l =
    inside_trans (bracket_at x n >> exp_b n) (bracket_at x m >> exp_b n) (bracket_at x m >> exp_b m)
    (then_inside (exp_b n) (exp_isotone_from n (omega arith)) (bracket_at x n) (bracket_at x m) (meeting x n n) (nested x m n o l))
    (exp_nested m n o l (bracket_at x m))
