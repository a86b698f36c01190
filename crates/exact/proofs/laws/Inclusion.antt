-- What a program shows of the interval K that it computes from I and J, operation by operation, so that K contains the N-th
-- bracket of the result. With `contains_holds` at the end, K then holds the exact value. Assumes nothing.
use Rattle.std.specs.Prelude.{ℕ, suc, ◌≡◌}
use Rattle.std.proofs.Common.{subst₂}
use Rattle.std.proofs.Math.Option.{Option, none, some}
use Rattle.exact.specs.Fraction.{Frac, ◌⊑◌, Positive, zero_f, ◌⊠◌, inverse}
use Rattle.exact.specs.Bracket.{Bracket, over_pairs, quotients}
use Rattle.exact.specs.LnExp.{ln_lower_at, ln_upper_at, exp_lower_at, exp_upper_at}
use Rattle.exact.specs.Formula.{Formula, const, div, ln, exp, bracket_at, lift, ◌>>◌, ln_b, exp_b, quotient_b}
use Rattle.exact.specs.laws.Containment.{Inside}
use Rattle.exact.proofs.laws.Containment.{inside_wider, then_inside, ln_isotone, exp_isotone}
use Rattle.exact.specs.laws.Decide.{dec_positives, decided}
use Rattle.exact.proofs.laws.Frac.{product_mono, positive_mono, inverse_anti, ⊑_trans}
use Rattle.exact.proofs.laws.Meeting.{ends, Meets, meeting}
use Rattle.exact.proofs.laws.Pairs.{quotient, outward_in, lo_in, hi_in}
use Rattle.exact.specs.Holding.{◌∈◌}

-- K contains `op` of every point of I and every point of J
binary : {op : Frac → Frac → Frac} (x y : Option Bracket) {I J K : Bracket} → Meets x x → Meets y y → Inside x (some I) → Inside y (some J)
    → ((p q : Frac) → p ∈ I → q ∈ J → op p q ∈ K) → Inside (lift (over_pairs op) x y) (some K)
unfolding lift ◌>>◌ over_pairs
binary none y v w h k r = h
binary (some A) none v w h k r = k
binary (some A) (some B) v w h k r =
    let a = lo_in h v in
    let b = hi_in h v in
    let c = lo_in k w in
    let d = hi_in k w in
    outward_in (r _ _ a c) (r _ _ a d) (r _ _ b c) (r _ _ b d)

-- the same of formulas, for every operation that is taken over all pairs of ends
pub binary_inside : {op : Frac → Frac → Frac} (x y : Formula) (n : ℕ) {I J K : Bracket} → Inside (bracket_at x n) (some I) → Inside (bracket_at y n) (some J)
    → ((p q : Frac) → p ∈ I → q ∈ J → op p q ∈ K) → Inside (lift (over_pairs op) (bracket_at x n) (bracket_at y n)) (some K)
binary_inside x y n h k r = binary (bracket_at x n) (bracket_at y n) (meeting x n n) (meeting y n n) h k r

-- K contains the quotient of every point of I by every point of J, which lies above 0
pub binary_quotient : (x y : Option Bracket) {I J K : Bracket} → Meets x x → Meets y y → Inside x (some I) → Inside y (some J) → Positive J.lo
    → ((p q : Frac) → p ∈ I → q ∈ J → (z : Positive q) → quotient p q z ∈ K) → Inside (x >> (λ A. y >> quotient_b A)) (some K)
unfolding ◌>>◌ quotient_b quotients over_pairs
binary_quotient none y v w h k z r = h
binary_quotient (some A) none v w h k z r = k
binary_quotient (some A) (some B) {K = K} v w h k z r =
    decided (λ o. Inside o (some K)) (dec_positives B.lo B.hi)
    (λ d.
    let a = lo_in h v in
    let b = hi_in h v in
    let s = lo_in k w in
    let t = hi_in k w in
    outward_in (r _ _ a s d.0) (r _ _ a t d.1) (r _ _ b s d.0) (r _ _ b t d.1))
    λ d. let p = positive_mono z k.above in d (p, positive_mono p w)

pub const_inside : (c : Frac) (n : ℕ) (K : Bracket) → c ∈ K → Inside (bracket_at (const c) n) (some K)
unfolding bracket_at
const_inside c n K h = record { above = h.above; below = h.below }

-- Quotients, ln and e^. The ends are asked for at every proof that the argument is positive, so that no two proofs are compared

pub ln_inside : (x : Formula) (n : ℕ) (I K : Bracket) → Inside (bracket_at x n) (some I) → Positive I.lo → Positive I.hi
    → ((p : Positive I.lo) → K.lo ⊑ ln_lower_at I.lo p n) → ((q : Positive I.hi) → ln_upper_at I.hi q n ⊑ K.hi)
    → Inside (bracket_at (ln x) n) (some K)
unfolding bracket_at ◌>>◌ ln_b
ln_inside x n I K h p q a b =
    decided (λ o. Inside (bracket_at x n >> ln_b n) o → Inside (bracket_at x n >> ln_b n) (some K)) (dec_positives I.lo I.hi)
    (λ d g. inside_wider (bracket_at x n >> ln_b n) (record { above = a d.0; below = b d.1 }) g) (λ d g. absurd (d (p, q)))
    (then_inside (ln_b n) (ln_isotone n) (bracket_at x n) (some I) (meeting x n n) h)

-- a dividend from 0 up; R contains one over J
pub div_inside : (x y : Formula) (n : ℕ) (I J R K : Bracket) → Inside (bracket_at x n) (some I) → Inside (bracket_at y n) (some J)
    → Positive J.lo → Positive J.hi → ((q : Positive J.hi) → R.lo ⊑ inverse J.hi q) → ((p : Positive J.lo) → inverse J.lo p ⊑ R.hi)
    → zero_f ⊑ I.lo → zero_f ⊑ R.lo → K.lo ⊑ I.lo ⊠ R.lo → I.hi ⊠ R.hi ⊑ K.hi → Inside (bracket_at (div x y) n) (some K)
unfolding bracket_at
div_inside x y n I J R K h k p q c d z w a b =
    binary_quotient (bracket_at x n) (bracket_at y n) (meeting x n n) (meeting y n n) h k p
    λ u v i j o.
    let r = ⊑_trans (c q) (inverse_anti o q j.below) in
    let s = ⊑_trans (inverse_anti p o j.above) (d p) in
    record {
      above = ⊑_trans a (product_mono w (⊑_trans z i.above) i.above r);
      below = ⊑_trans (product_mono (⊑_trans w r) (⊑_trans z (⊑_trans i.above i.below)) i.below s) b;
    }

-- N = k + 1, and the ends of e^ are there at the ends of I
pub exp_inside : (x : Formula) (k : ℕ) (I K : Bracket) (l u : Frac) → Inside (bracket_at x (suc k)) (some I)
    → exp_lower_at I.lo (suc k) ≡ some l → exp_upper_at I.hi (suc k) ≡ some u → K.lo ⊑ l → u ⊑ K.hi
    → Inside (bracket_at (exp x) (suc k)) (some K)
unfolding bracket_at ◌>>◌ exp_b lift
exp_inside x k I K l u h p q a b =
    go (bracket_at x (suc k) >> exp_b (suc k)) (exp_lower_at I.lo (suc k)) (exp_upper_at I.hi (suc k)) p q
    (then_inside (exp_b (suc k)) (exp_isotone k) (bracket_at x (suc k)) (some I) (meeting x (suc k) (suc k)) h)
  where
    go : (r : Option Bracket) (c d : Option Frac) → c ≡ some l → d ≡ some u → Inside r (ends c d) → Inside r (some K)
    go r c d p q g = inside_wider r {I = record { lo = l; hi = u }} (record { above = a; below = b }) (subst₂ (λ c d. Inside r (ends c d)) p q g)
