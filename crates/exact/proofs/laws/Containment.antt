-- Containment: an interval that contains the arguments' N-th brackets has an image that contains the result's, and an
-- interval that contains one bracket of a formula meets them all. With it a program that computes outward from some N on
-- is proved operation by operation. Assumes nothing.
use Rattle.exact.specs.laws.Containment.{Inside}
use Rattle.std.specs.Prelude.{ℕ, zero, suc, ◌≤◌, ◌≡◌, refl, Bool, true, false}
use Rattle.std.proofs.lemmas.Bool.{false≢true}
use Rattle.std.proofs.Math.Option.{Option, none, some}
use Rattle.exact.specs.Fraction.{Ratio, ◌≼◌, Above0, whole, sum, Frac, ◌⊑◌, Positive, zero_f, neg, magnitude, one_f}
use Rattle.exact.specs.Bracket.{Bracket, over_pairs}
use Rattle.exact.specs.Series.{exp_lower, exp_upper}
use Rattle.exact.specs.LnExp.{ln_lower_at, ln_upper_at, exp_upper_of, one_over_of, exp_lower_at, exp_upper_at}
use Rattle.exact.specs.Formula.{Formula, bracket_at, lift, ◌>>◌, ln_b, exp_b}
use Rattle.exact.specs.laws.Decide.{dec_f, dec_positives, dec_above0, decided, decided₂}
use Rattle.exact.specs.laws.Divisors.{magnitude_above, one_magnitude, one_recip}
use Rattle.exact.proofs.laws.EndsMeet.{signed, magnitude_mono, neg_below, of_ratio_mono, one_below_exp, recip_below_one, first_term}
use Rattle.exact.proofs.laws.Exp.{exp_lower_mono, exp_upper_mono}
use Rattle.exact.proofs.laws.Frac.{⊑_trans, neg_anti, positive_mono}
use Rattle.exact.proofs.laws.Ln.{ln_lower_mono, ln_upper_mono}
use Rattle.exact.proofs.laws.Meeting.{ends, Meets, brackets_meet}
use Rattle.exact.specs.laws.Pairs.{◌⊆◌}
use Rattle.exact.proofs.laws.Pairs.{Monotone, pairs_isotone}
use Rattle.exact.proofs.laws.Ratio.{above_one, ≼_trans, ⊕-upper, recip_anti, above_mono, ⊖-anti}
use Rattle.exact.specs.Holding.{Holds}

-- the bracket inside
found : (x : Option Bracket) {I : Bracket} → Inside x (some I) → (A : Bracket) × (x ≡ some A) × (A ⊆ I)
found none h = absurd h
found (some A) h = (A, refl, h)

-- an interval that contains one bracket of a formula holds its exact value
pub contains_holds : (x : Formula) (n : ℕ) → 1 ≤ n → (I : Bracket) → Inside (bracket_at x n) (some I) → Holds I x
contains_holds x n o I h =
    let f = found (bracket_at x n) h in
    record {
      ordered = ⊑_trans f.2.above (⊑_trans (brackets_meet x n n f.0 f.0 f.1 f.1).first f.2.below);
      meets = λ m p B e.
          let r = brackets_meet x n m f.0 B f.1 e in
          record { first = ⊑_trans f.2.above r.first; second = ⊑_trans r.second f.2.below };
      there = record { place = n; from_one = o; bracket = f.0; is = f.1 };
    }

-- a closed bracket is compared by the checker: `inside_true _ I refl`
unfoldable pub inside : Option Bracket → Bracket → Bool
inside none I = false
inside (some A) I = elim (dec_f I.lo A.lo) [ yes h ↦ elim (dec_f A.hi I.hi) [ yes k ↦ true | no k ↦ false ] | no h ↦ false ]

pub inside_true : (x : Option Bracket) (I : Bracket) → inside x I ≡ true → Inside x (some I)
unfolding inside
inside_true none I e = absurd (false≢true e)
inside_true (some A) I e = go (dec_f I.lo A.lo) (dec_f A.hi I.hi) e
  where
    go : (d : Dec (I.lo ⊑ A.lo)) (c : Dec (A.hi ⊑ I.hi))
        → ◌≡◌ {A = Bool} (elim d [ yes h ↦ elim c [ yes k ↦ true | no k ↦ false ] | no h ↦ false ]) true → A ⊆ I
    go (yes h) (yes k) e = record { above = h; below = k }
    go (yes h) (no k) e = absurd (false≢true e)
    go (no h) c e = absurd (false≢true e)

-- widening
pub inside_wider : (x : Option Bracket) {I J : Bracket} → I ⊆ J → Inside x (some I) → Inside x (some J)
inside_wider none w h = h
inside_wider (some A) w h = record { above = ⊑_trans w.above h.above; below = ⊑_trans h.below w.below }

-- the operations over all pairs of ends
pub pairs_inside : {op : Frac → Frac → Frac} → Monotone op → (x y i j : Option Bracket) → Meets x x → Meets y y
    → Inside x i → Inside y j → Inside (lift (over_pairs op) x y) (lift (over_pairs op) i j)
unfolding lift ◌>>◌
pairs_inside M x y none j v w h k = tt
pairs_inside M x y (some I) none v w h k = tt
pairs_inside M none y (some I) (some J) v w h k = h
pairs_inside M (some A) none (some I) (some J) v w h k = k
pairs_inside M (some A) (some B) (some I) (some J) v w h k = pairs_isotone M v w h k

-- an operation on one bracket that is inclusion isotone
abbrev pub Isotone : (Bracket → Option Bracket) → Type 0
Isotone f = (A I : Bracket) → A.lo ⊑ A.hi → A ⊆ I → Inside (f A) (f I)

pub then_inside : (f : Bracket → Option Bracket) → Isotone f → (x i : Option Bracket) → Meets x x → Inside x i → Inside (x >> f) (i >> f)
unfolding ◌>>◌
then_inside f c x none w h = tt
then_inside f c none (some I) w h = absurd h
then_inside f c (some A) (some I) w h = c A I w h

-- ln

pub ln_lower_end : (s t : Frac) (h : Positive s) (k : Positive t) → s ⊑ t → (n : ℕ) → ln_lower_at s h n ⊑ ln_lower_at t k n
unfolding ln_lower_at
ln_lower_end s t h k l n =
    decided₂ ◌⊑◌ (dec_f one_f s) (dec_f one_f t)
    (λ i j. of_ratio_mono (ln_lower_mono _ _ (one_magnitude i) (magnitude_mono l) n))
    (λ i j. absurd (j (⊑_trans i l)))
    (λ i j. neg_below _ _)
    λ i j.
    neg_anti (of_ratio_mono
    (ln_upper_mono _ _ (one_recip t (magnitude_above t k) j) (one_recip s (magnitude_above s h) i)
    (recip_anti (magnitude_above s h) (magnitude_above t k) (magnitude_mono l)) n))

pub ln_upper_end : (s t : Frac) (h : Positive s) (k : Positive t) → s ⊑ t → (n : ℕ) → ln_upper_at s h n ⊑ ln_upper_at t k n
unfolding ln_upper_at
ln_upper_end s t h k l n =
    decided₂ ◌⊑◌ (dec_f one_f s) (dec_f one_f t)
    (λ i j. of_ratio_mono (ln_upper_mono _ _ (one_magnitude i) (one_magnitude j) (magnitude_mono l) n))
    (λ i j. absurd (j (⊑_trans i l)))
    (λ i j. neg_below _ _)
    λ i j.
    neg_anti (of_ratio_mono
    (ln_lower_mono _ _ (one_recip t (magnitude_above t k) j)
    (recip_anti (magnitude_above s h) (magnitude_above t k) (magnitude_mono l)) n))

pub ln_isotone : (n : ℕ) → Isotone (ln_b n)
unfolding ln_b
ln_isotone n A I w h =
    decided₂ Inside (dec_positives A.lo A.hi) (dec_positives I.lo I.hi)
    (λ a c. record { above = ln_lower_end I.lo A.lo c.0 a.0 h.above n; below = ln_upper_end A.hi I.hi a.1 c.1 h.below n })
    (λ a c. tt)
    (λ a c. let p = positive_mono c.0 h.above in a (p, positive_mono p w))
    (λ a c. tt)

-- e^, for N ≥ 1

-- a lower end at a smaller argument: where it is there, so is the other, and it is at most that
abbrev pub AtMost : Option Frac → Option Frac → Type 0
AtMost none y = Unit {0}
AtMost (some a) none = ⊥
AtMost (some a) (some b) = a ⊑ b

-- an upper end at a larger argument
abbrev pub AtLeast : Option Frac → Option Frac → Type 0
AtLeast none y = Unit {0}
AtLeast (some a) none = ⊥
AtLeast (some a) (some b) = b ⊑ a

grow : (y : Ratio) (k : ℕ) → whole 1 ≼ exp_lower y (suc k) → whole 1 ≼ exp_lower y (suc (suc k))
unfolding exp_lower sum
grow y k h = ≼_trans h (⊕-upper _ _)

pub one_below_lower : (y : Ratio) (k : ℕ) → whole 1 ≼ exp_lower y (suc k)
one_below_lower y zero = first_term y
one_below_lower y (suc k) = grow y k (one_below_lower y k)

-- the same of fractions from 0 up
abbrev pub AtMostOf : Option Ratio → Option Ratio → Type 0
AtMostOf x y = AtMost (signed x) (signed y)

abbrev pub AtLeastOf : Option Ratio → Option Ratio → Type 0
AtLeastOf x y = AtLeast (signed x) (signed y)

-- 0 ≤ s ≤ t
upper_upper : {x y : Ratio} → x ≼ y → (n : ℕ) → AtLeastOf (exp_upper_of y n) (exp_upper_of x n)
unfolding exp_upper_of
upper_upper l n =
    decided₂ AtLeastOf (dec_above0 _) (dec_above0 _)
    (λ k h. of_ratio_mono (exp_upper_mono l n h k)) (λ k h. h (above_mono k (⊖-anti (whole (suc n)) l k))) (λ k h. tt) (λ k h. tt)

-- s < 0 ≤ t
recip_lower : (x y : Ratio) → whole 1 ≼ x → whole 1 ≼ y → AtMostOf (one_over_of (some x)) (some y)
unfolding one_over_of
recip_lower x y l k = decided (λ o. AtMostOf o (some y)) (dec_above0 x) (λ h. of_ratio_mono (≼_trans (recip_below_one x h l) k)) (λ h. tt)

upper_lower : (x y : Ratio) (n : ℕ) → whole 1 ≼ y → AtMostOf (one_over_of (exp_upper_of x n)) (some y)
unfolding exp_upper_of one_over_of
upper_lower x y n k = decided (λ o. AtMostOf (one_over_of o) (some y)) (dec_above0 _) (λ h. recip_lower (exp_upper x n h) y (one_below_exp x n h) k) (λ h. tt)

upper_recip : (x y : Ratio) (n : ℕ) → whole 1 ≼ x → AtLeastOf (exp_upper_of y n) (one_over_of (some x))
unfolding exp_upper_of one_over_of
upper_recip x y n l =
    decided₂ AtLeastOf (dec_above0 _) (dec_above0 x)
    (λ k h. of_ratio_mono (≼_trans (recip_below_one x h l) (one_below_exp y n k))) (λ k h. h (above_one l)) (λ k h. tt) (λ k h. tt)

-- s ≤ t < 0
pub recip_least : (x y : Ratio) → Above0 y → y ≼ x → AtMostOf (one_over_of (some x)) (one_over_of (some y))
unfolding one_over_of
recip_least x y p l = decided₂ AtMostOf (dec_above0 x) (dec_above0 y) (λ h k. of_ratio_mono (recip_anti k h l)) (λ h k. k p) (λ h k. tt) (λ h k. tt)

pub recip_most : (x y : Ratio) → Above0 x → y ≼ x → AtLeastOf (one_over_of (some y)) (one_over_of (some x))
unfolding one_over_of
recip_most x y p l = decided₂ AtLeastOf (dec_above0 y) (dec_above0 x) (λ k h. of_ratio_mono (recip_anti k h l)) (λ k h. h p) (λ k h. tt) (λ k h. tt)

recip_uppers : {x y : Ratio} → y ≼ x → (n : ℕ) → AtMostOf (one_over_of (exp_upper_of x n)) (one_over_of (exp_upper_of y n))
unfolding exp_upper_of one_over_of
recip_uppers {x} {y} l n =
    decided₂ (λ a b. AtMostOf (one_over_of a) (one_over_of b)) (dec_above0 _) (dec_above0 _)
    (λ h k. recip_least (exp_upper x n h) (exp_upper y n k) (above_one (one_below_exp y n k)) (exp_upper_mono l n k h))
    (λ h k. absurd (k (above_mono h (⊖-anti (whole (suc n)) l h))))
    (λ h k. tt)
    (λ h k. tt)

pub exp_lower_end : (s t : Frac) → s ⊑ t → (k : ℕ) → AtMost (exp_lower_at s (suc k)) (exp_lower_at t (suc k))
unfolding exp_lower_at
exp_lower_end s t l k =
    decided₂ AtMostOf (dec_f zero_f s) (dec_f zero_f t)
    (λ i j. of_ratio_mono (exp_lower_mono (magnitude_mono l) (suc k)))
    (λ i j. absurd (j (⊑_trans i l)))
    (λ i j. upper_lower _ _ (suc k) (one_below_lower (magnitude t) k))
    (λ i j. recip_uppers (magnitude_mono (neg_anti l)) (suc k))

pub exp_upper_end : (s t : Frac) → s ⊑ t → (k : ℕ) → AtLeast (exp_upper_at t (suc k)) (exp_upper_at s (suc k))
unfolding exp_upper_at
exp_upper_end s t l k =
    decided₂ AtLeastOf (dec_f zero_f t) (dec_f zero_f s)
    (λ j i. upper_upper (magnitude_mono l) (suc k))
    (λ j i. upper_recip _ _ (suc k) (one_below_lower (magnitude (neg s)) k))
    (λ j i. absurd (j (⊑_trans i l)))
    λ j i. recip_most _ _ (above_one (one_below_lower (magnitude (neg s)) k)) (exp_lower_mono (magnitude_mono (neg_anti l)) (suc k))

pub ends_inside : (a b c d : Option Frac) → AtMost c a → AtLeast d b → Inside (ends a b) (ends c d)
unfolding lift ◌>>◌
ends_inside a b none d h k = tt
ends_inside a b (some c) none h k = tt
ends_inside none b (some c) (some d) h k = h
ends_inside (some a) none (some c) (some d) h k = k
ends_inside (some a) (some b) (some c) (some d) h k = record { above = h; below = k }

pub exp_isotone : (k : ℕ) → Isotone (exp_b (suc k))
unfolding exp_b
exp_isotone k A I w h =
    ends_inside _ _ _ _ (exp_lower_end I.lo A.lo h.above k) (exp_upper_end A.hi I.hi h.below k)
