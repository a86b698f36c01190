-- The form of a promise of ln and e^, which have no value among the fractions: for every point of the argument, and for every N from
-- some T on, the N-th ends at that point lie in the result. Lifted to formulas as the other operations are. Assumes nothing.
use Rattle.std.specs.Prelude.{ℕ, ◌≡◌}
use Rattle.std.proofs.Common.{sym, subst₂}
use Rattle.std.proofs.Math.Option.{Option, none, some}
use Rattle.exact.specs.Fraction.{Frac, ◌⊑◌, Positive}
use Rattle.exact.specs.laws.Decide.{dec_positives, decided}
use Rattle.exact.proofs.laws.Frac.{positive_mono}
use Rattle.exact.specs.Bracket.{Bracket}
use Rattle.exact.proofs.laws.Pairs.{lo_in, hi_in}
use Rattle.exact.specs.LnExp.{ln_lower_at, ln_upper_at, exp_lower_at, exp_upper_at}
use Rattle.exact.specs.Formula.{Formula, ln, exp, bracket_at, lift, ◌>>◌, ln_b, exp_b}
use Rattle.exact.proofs.laws.Meeting.{ends, Meets, meeting}
use Rattle.exact.specs.laws.Containment.{Inside}
use Rattle.exact.specs.Holding.{◌∈◌}

-- the n-th ends of ln p lie in K
pub record LnWithin (p : Frac) (z : Positive p) (n : ℕ) (K : Bracket) : Type 0 where
  pub above : K.lo ⊑ ln_lower_at p z n
  pub below : ln_upper_at p z n ⊑ K.hi

-- the n-th ends of e^p are there, and lie in K
pub record ExpWithin (p : Frac) (n : ℕ) (K : Bracket) : Type 0 where
  pub lower : Frac
  pub upper : Frac
  pub lower_is : exp_lower_at p n ≡ some lower
  pub upper_is : exp_upper_at p n ≡ some upper
  pub above : K.lo ⊑ lower
  pub below : upper ⊑ K.hi

ln_over : (n : ℕ) (x : Option Bracket) {I K : Bracket} → Meets x x → Inside x (some I) → Positive I.lo
    → ((p : Frac) → p ∈ I → (z : Positive p) → LnWithin p z n K) → Inside (x >> ln_b n) (some K)
unfolding ◌>>◌ ln_b
ln_over n none w h z r = h
ln_over n (some A) {K = K} w h z r =
    decided (λ o. Inside o (some K)) (dec_positives A.lo A.hi)
    (λ d. record { above = (r _ (lo_in h w) d.0).above; below = (r _ (hi_in h w) d.1).below })
    λ d. let p = positive_mono z h.above in d (p, positive_mono p w)

pub ln_encloses : (x : Formula) (n : ℕ) {I K : Bracket} → Inside (bracket_at x n) (some I) → Positive I.lo
    → ((p : Frac) → p ∈ I → (z : Positive p) → LnWithin p z n K) → Inside (bracket_at (ln x) n) (some K)
unfolding bracket_at
ln_encloses x n h z r = ln_over n (bracket_at x n) (meeting x n n) h z r

exp_over : (n : ℕ) (x : Option Bracket) {I K : Bracket} → Meets x x → Inside x (some I)
    → ((p : Frac) → p ∈ I → ExpWithin p n K) → Inside (x >> exp_b n) (some K)
unfolding exp_b lift ◌>>◌
exp_over n none w h r = h
exp_over n (some A) {I} {K} w h r =
    let s = r _ (lo_in h w) in
    let t = r _ (hi_in h w) in
    subst₂ (λ (c d : Option Frac). Inside (ends c d) (some K)) (sym s.lower_is) (sym t.upper_is) (record { above = s.above; below = t.below })

pub exp_encloses : (x : Formula) (n : ℕ) {I K : Bracket} → Inside (bracket_at x n) (some I)
    → ((p : Frac) → p ∈ I → ExpWithin p n K) → Inside (bracket_at (exp x) n) (some K)
unfolding bracket_at
exp_encloses x n h r = exp_over n (bracket_at x n) (meeting x n n) h r
