-- A factor from 0 up, and a divisor, that two products or quotients share: what is the smaller with it is the smaller without. Assumes nothing.
use Rattle.std.specs.Prelude.{ℕ}
use Rattle.std.proofs.Math.Option.{Option, none, some}
use Rattle.std.proofs.Common.{arith}
use Rattle.exact.specs.Fraction.{Ratio, Frac, ◌⊑◌, Positive, ◌⊠◌, inverse, zero_f, of_ratio, magnitude, neg}
use Rattle.exact.specs.Bracket.{Bracket, over_pairs, quotients}
use Rattle.exact.specs.Series.{exp_lower}
use Rattle.exact.specs.LnExp.{exp_upper_of, one_over_of, exp_lower_at, exp_upper_at}
use Rattle.exact.specs.Formula.{Formula, const, mul, div, exp, bracket_at, lift, ◌>>◌, exp_b, quotient_b}
use Rattle.exact.specs.Holding.{◌∈◌}
use Rattle.exact.specs.Smaller.{IsSmaller}
use Rattle.exact.specs.laws.Decide.{dec_f, dec_positives}
use Rattle.exact.proofs.laws.EndsMeet.{signed}
use Rattle.exact.proofs.laws.Frac.{⊑_refl, ⊑_trans, ⊠-mono}
use Rattle.exact.proofs.laws.Pairs.{⊠-monotone, pairs_hold, quotients_hold}
use Rattle.exact.proofs.laws.Meeting.{Meets, ends, meeting}
use Rattle.exact.proofs.laws.Points.{signed_above}
use Rattle.exact.proofs.laws.Smaller.{Apart, apart_smaller, apart_there}

-- Formulas whose brackets lie from 0 up

abbrev From0 : Option Bracket → Type 0
From0 none = Unit {0}
From0 (some Z) = zero_f ⊑ Z.lo

pub record NotNegative (z : Formula) : Type 0 where
  pub from_0 : (n : ℕ) → From0 (bracket_at z n)

pub fraction_from_0 : (q : Ratio) → NotNegative (const (of_ratio q))
unfolding bracket_at
fraction_from_0 q = record { from_0 = λ n. signed_above q }

ends_from_0 : (a : Option Ratio) (b : Option Frac) → From0 (ends (signed a) b)
unfolding lift ◌>>◌
ends_from_0 none b = tt
ends_from_0 (some a) none = tt
ends_from_0 (some a) (some b) = signed_above a

exp_bracket : (x : Option Bracket) (n : ℕ) → From0 (x >> exp_b n)
unfolding ◌>>◌ exp_b exp_lower_at
exp_bracket none n = tt
exp_bracket (some B) n =
    let y = B.lo in
    ends_from_0 (elim (dec_f zero_f y) [ yes l ↦ some (exp_lower (magnitude y) n) | no l ↦ one_over_of (exp_upper_of (magnitude (neg y)) n) ]) (exp_upper_at B.hi n)

pub exp_from_0 : (x : Formula) → NotNegative (exp x)
unfolding bracket_at
exp_from_0 x = record { from_0 = λ n. exp_bracket (bracket_at x n) n }

-- Left out at one place

first_end : {A : Bracket} → A.lo ⊑ A.hi → A.lo ∈ A
first_end {A} h = record { above = ⊑_refl A.lo; below = h }

last_end : {A : Bracket} → A.lo ⊑ A.hi → A.hi ∈ A
last_end {A} h = record { above = h; below = ⊑_refl A.hi }

factor_out : (x y z : Option Bracket) → Meets x x → Meets y y → Meets z z → From0 z → Apart (lift (over_pairs ◌⊠◌) x z) (lift (over_pairs ◌⊠◌) y z) → Apart x y
unfolding lift ◌>>◌
factor_out none y z u v w p h = absurd h
factor_out (some A) y none u v w p h = absurd h
factor_out (some A) none (some Z) u v w p h = absurd h
factor_out (some A) (some B) (some Z) u v w p h =
    record {
      less = λ l.
          h.less
          (⊑_trans (pairs_hold ⊠-monotone (first_end v) (first_end w)).above (⊑_trans (⊠-mono Z.lo p l) (pairs_hold ⊠-monotone (last_end u) (first_end w)).below));
    }

inverse_from_0 : (q : Frac) (h : Positive q) → zero_f ⊑ inverse q h
unfolding inverse zero_f
inverse_from_0 q h = record { cross = omega arith }

divisor_out : (x y z : Option Bracket) → Meets x x → Meets y y → Meets z z → Apart (x >> (λ A. z >> quotient_b A)) (y >> (λ A. z >> quotient_b A)) → Apart x y
unfolding ◌>>◌ quotient_b
divisor_out none y z u v w h = absurd h
divisor_out (some A) y none u v w h = absurd h
divisor_out (some A) none (some Z) u v w h = go (dec_positives Z.lo Z.hi) h
  where
    go : (d : Dec (Positive Z.lo × Positive Z.hi)) → Apart (elim d [ yes k ↦ some (quotients A Z k.0 k.1) | no k ↦ none ]) none → ⊥
    go (yes k) h = h
    go (no k) h = h
divisor_out (some A) (some B) (some Z) u v w h = go (dec_positives Z.lo Z.hi) h
  where
    go : (d : Dec (Positive Z.lo × Positive Z.hi))
        → Apart (elim d [ yes k ↦ some (quotients A Z k.0 k.1) | no k ↦ none ]) (elim d [ yes k ↦ some (quotients B Z k.0 k.1) | no k ↦ none ])
        → Apart (some A) (some B)
    go (yes k) h =
        record {
          less = λ l.
              h.less
              (⊑_trans (quotients_hold (first_end v) (first_end w) k.0 k.0 k.1).above
              (⊑_trans (⊠-mono (inverse Z.lo k.0) (inverse_from_0 Z.lo k.0) l) (quotients_hold (last_end u) (first_end w) k.0 k.0 k.1).below));
        }
    go (no k) h = absurd h

-- Left out

module _ (x y z : Formula) where
  pub without_factor : NotNegative z → IsSmaller (mul x z) (mul y z) → IsSmaller x y
  unfolding bracket_at
  without_factor p s =
      let n = s.place in
      apart_smaller x y n s.from_one
      (factor_out (bracket_at x n) (bracket_at y n) (bracket_at z n) (meeting x n n) (meeting y n n) (meeting z n n) (p.from_0 n) (apart_there s))

  pub without_divisor : IsSmaller (div x z) (div y z) → IsSmaller x y
  unfolding bracket_at
  without_divisor s =
      let n = s.place in
      apart_smaller x y n s.from_one (divisor_out (bracket_at x n) (bracket_at y n) (bracket_at z n) (meeting x n n) (meeting y n n) (meeting z n n) (apart_there s))
