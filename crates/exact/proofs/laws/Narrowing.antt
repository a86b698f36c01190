-- How narrow the bracket of a sum, difference, product, quotient or smaller of two is, from how narrow its parts are. Assumes nothing.
use Rattle.std.specs.Prelude.{ℕ, suc, ◌+◌, ◌*◌, ◌≤◌, Bool}
use Rattle.std.proofs.Math.Bool.{true, false}
use Rattle.std.proofs.Math.Option.{Option, none, some}
use Rattle.std.proofs.Common.{arith}
use Rattle.exact.specs.Fraction.{Ratio, ◌≼◌, whole, ◌⊗◌, Frac, Positive, inverse}
use Rattle.exact.specs.Bracket.{Bracket, over_pairs, quotients}
use Rattle.exact.specs.Formula.{lift, ◌>>◌, quotient_b}
use Rattle.exact.specs.laws.Decide.{dec_positives, decided}
use Rattle.exact.proofs.laws.Frac.{⊑_refl, larger_lub}
use Rattle.exact.proofs.laws.Ln.{whole_mono}
use Rattle.exact.proofs.laws.Nearness.{Upto, wider, at_most, Apart, Bounded, Lipschitz, upto_smaller, product_lipschitz, Beyond, beyond_positive, inverse_bounded, inverse_upto}
use Rattle.exact.proofs.laws.Ratio.{one_times, ≼_refl, ≼_trans, from≼, ⊗_mono}

-- the bracket is there and has P
abbrev pub All : (Bracket → Type 0) → Option Bracket → Type 0
All P none = ⊥
All P (some A) = P A

-- at most ε wide
pub record Narrow (ε : Ratio) (A : Bracket) : Type 0 where
  pub width : Upto A.hi A.lo ε

pub narrow_wider : (x : Option Bracket) {δ ε : Ratio} → δ ≼ ε → All (Narrow δ) x → All (Narrow ε) x
narrow_wider none l h = h
narrow_wider (some A) l h = record { width = wider l h.width }

pub record BoundedEnds (M : ℕ) (A : Bracket) : Type 0 where
  pub least : Bounded M A.lo
  pub most : Bounded M A.hi

-- the ends are within M, and at most ε apart, whichever is the smaller
pub record Slim (M : ℕ) (ε : Ratio) (A : Bracket) : Type 0 where
  pub apart : Apart A.lo A.hi ε
  pub bounded : BoundedEnds M A

slim_wider : {M : ℕ} {δ ε : Ratio} {A : Bracket} → δ ≼ ε → Slim M δ A → Slim M ε A
slim_wider l s =
    record { apart = record { above = wider l s.apart.above; below = wider l s.apart.below }; bounded = s.bounded }

-- Operations over all pairs of ends

abbrev side : Bracket → Bool → Frac
side A false = A.lo
side A true = A.hi

module _ {M : ℕ} {ε : Ratio} {A : Bracket} (s : Slim M ε A) where
  within : (i : Bool) → Bounded M (side A i)
  within false = s.bounded.least
  within true = s.bounded.most

  sides : (i j : Bool) → Apart (side A i) (side A j) ε
  sides false false = record { above = at_most (⊑_refl A.lo); below = at_most (⊑_refl A.lo) }
  sides false true = s.apart
  sides true false = record { above = s.apart.below; below = s.apart.above }
  sides true true = record { above = at_most (⊑_refl A.hi); below = at_most (⊑_refl A.hi) }

module _ {op : Frac → Frac → Frac} {S : ℕ → ℕ → ℕ} {M N : ℕ} {ε : Ratio} {A B : Bracket} (L : Lipschitz op S) (a : Slim M ε A) (b : Slim N ε B) where
  moves : (i j k l : Bool) → Upto (op (side A i) (side B j)) (op (side A k) (side B l)) (whole (S M N) ⊗ ε)
  moves i j k l = L.moves M N (within a i) (within b l) (sides a i k) (sides b j l)

  most : (i j : Bool) → Upto (op (side A i) (side B j)) (over_pairs op A B).lo (whole (S M N) ⊗ ε)
  unfolding over_pairs
  most i j = upto_smaller (upto_smaller (moves i j false false) (moves i j false true)) (upto_smaller (moves i j true false) (moves i j true true))

  pairs_narrow : Narrow (whole (S M N) ⊗ ε) (over_pairs op A B)
  unfolding over_pairs
  pairs_narrow =
      record {
        width =
            record {
              up =
                  larger_lub (larger_lub (most false false).up (most false true).up) (larger_lub (most true false).up (most true true).up);
            };
      }

pub pairs_narrow_of : {op : Frac → Frac → Frac} {S : ℕ → ℕ → ℕ} → Lipschitz op S → (M N : ℕ) (ε : Ratio) (x y : Option Bracket)
    → All (Slim M ε) x → All (Slim N ε) y → All (Narrow (whole (S M N) ⊗ ε)) (lift (over_pairs op) x y)
unfolding lift ◌>>◌
pairs_narrow_of L M N ε none y h k = h
pairs_narrow_of L M N ε (some A) none h k = k
pairs_narrow_of L M N ε (some A) (some B) h k = pairs_narrow L h k

-- Quotients: products with one over the ends of a divisor of which R times each end is at least 1

pub record Divisor (R : ℕ) (B : Bracket) : Type 0 where
  pub least : Beyond R B.lo
  pub most : Beyond R B.hi

inverses_slim : {R N : ℕ} {ε : Ratio} {B : Bracket} → Slim N ε B → Divisor R B → (p : Positive B.lo) (q : Positive B.hi)
    → Slim R (whole (R * R) ⊗ ε) (record { lo = inverse B.lo p; hi = inverse B.hi q })
inverses_slim s d p q =
    record {
      apart = record { above = inverse_upto d.least d.most s.apart.below p q; below = inverse_upto d.most d.least s.apart.above q p };
      bounded = record { least = inverse_bounded d.least p; most = inverse_bounded d.most q };
    }

more : (j k : ℕ) (ε : Ratio) → j ≤ k → whole j ⊗ ε ≼ whole k ⊗ ε
more j k ε l = ⊗_mono (whole_mono j k l) (≼_refl ε)

once : (k : ℕ) (ε : Ratio) → 1 ≤ k → ε ≼ whole k ⊗ ε
once k ε l = ≼_trans (from≼ (one_times ε)) (more 1 k ε l)

quotient_narrow : {M N R : ℕ} {ε : Ratio} {A B : Bracket} → Slim M ε A → Slim N ε B → Divisor R B
    → All (Narrow (whole (R + M) ⊗ (whole (suc (R * R)) ⊗ ε))) (quotient_b A B)
unfolding quotient_b quotients
quotient_narrow {M} {N} {R} {ε} {A} {B} s t d =
    decided (All (Narrow (whole (R + M) ⊗ (whole (suc (R * R)) ⊗ ε)))) (dec_positives B.lo B.hi)
    (λ e.
    pairs_narrow product_lipschitz (slim_wider (once (suc (R * R)) ε (omega arith)) s)
    (slim_wider (more (R * R) (suc (R * R)) ε (omega arith)) (inverses_slim t d e.0 e.1)))
    (λ e. e (beyond_positive d.least, beyond_positive d.most))

pub quotient_narrow_of : (M N R : ℕ) (ε : Ratio) (x y : Option Bracket) → All (Slim M ε) x → All (Slim N ε) y → All (Divisor R) y
    → All (Narrow (whole (R + M) ⊗ (whole (suc (R * R)) ⊗ ε))) (x >> (λ A. y >> quotient_b A))
unfolding ◌>>◌
quotient_narrow_of M N R ε none y h k d = h
quotient_narrow_of M N R ε (some A) none h k d = k
quotient_narrow_of M N R ε (some A) (some B) h k d = quotient_narrow h k d
