-- What each character of a line is worth, one after the other, and whether all are digits. Assumes nothing.
use Rattle.std.specs.Prelude.{ℕ, zero, suc, ◌+◌, ◌≤◌, ◌<◌, ◌≡◌, refl, Bool, true, false, ◌&&◌, List, [], ◌∷◌, ltb, get_or, drop, set}
use Rattle.std.proofs.Common.{sym, ◌∙◌, add-one, le_of_suc-le-suc, not-suc-le-zero, arith, length-set, drop_of_length-le, drop-cons, get_or-set_same, get_or-set_other, le-ltb, lt-ltb, ltb-true}
use Rattle.std.proofs.Math.Path.{ap}
use Rattle.std.proofs.Math.Bool.{and_assoc, and_comm}
use Rattle.std.proofs.Math.Decide.{dec_le}
use Rattle.std.proofs.Math.ListN.{length}
use Rattle.exact.proofs.laws.Tests.{both_true}
use Rattle.hexadecimals.specs.Digits.{digit_of, all_digits}

-- the first i characters are worked: each is worth its digit, and all are digits if `most` is below 16 and those that are left are digits
pub record Worth (line worth : List ℕ) (i most : ℕ) : Type 0 where
  pub turns : i ≤ length line
  pub whole : length worth ≡ length line
  pub each : (k : ℕ) → k < i → get_or worth k 0 ≡ digit_of (get_or line k 0)
  pub digits : all_digits line ≡ (ltb most 16 && all_digits (drop i line))

pub none_worked : (line worth : List ℕ) → length worth ≡ length line → Worth line worth 0 0
none_worked line worth h =
    record { turns = omega arith; whole = h; each = λ k h. absurd (omega arith); digits = refl }

-- one turn
pub next_worked : {line worth : List ℕ} {i most d top : ℕ} → Worth line worth i most → i < length line → d ≡ digit_of (get_or line i 0)
    → ltb top 16 ≡ (ltb most 16 && ltb d 16) → Worth line (set worth i d) (i + 1) top
unfolding all_digits
next_worked {line} {worth} {i} {most} {d} {top} w h e t =
    record {
      turns = omega arith;
      whole = length-set worth i d ∙ w.whole;
      each = λ k l. at k l (dec_le i k);
      digits = w.digits
          ∙ ap (λ (l : List ℕ). ltb most 16 && all_digits l) left
          ∙ sym (and_assoc (ltb most 16) (ltb (digit_of (get_or line i 0)) 16) (all_digits (drop (i + 1) line)))
          ∙ ap (λ (n : ℕ). (ltb most 16 && ltb n 16) && all_digits (drop (i + 1) line)) (sym e)
          ∙ ap (λ (b : Bool). b && all_digits (drop (i + 1) line)) (sym t);
    }
  where
    left : drop i line ≡ get_or line i 0 ∷ drop (i + 1) line
    left = drop-cons line i 0 h ∙ ap (λ (k : ℕ). get_or line i 0 ∷ drop k line) (sym (add-one i))

    at : (k : ℕ) → k < i + 1 → Dec (i ≤ k) → get_or (set worth i d) k 0 ≡ digit_of (get_or line k 0)
    at k l (yes j) =
        let same : k ≡ i = omega arith in
        rw same (get_or-set_same worth i d 0 (omega (arith, w.whole)) ∙ e)
    at k l (no j) = get_or-set_other worth i k d 0 (λ q. omega arith) ∙ w.each k (omega arith)

pub all_worked : {line worth : List ℕ} {i most : ℕ} → Worth line worth i most → length line ≤ i → Worth line worth (length line) most
all_worked {line} {worth} {i} {most} w h =
    let e : i ≡ length line = omega (arith, w.turns) in
    rw e at w

-- the greater of two is below 16 where both are
below_two : (a b : ℕ) → Dec (a < 16) → Dec (b < 16) → a ≤ b → ltb b 16 ≡ (ltb a 16 && ltb b 16)
below_two a b (yes h) d l = simp (lt-ltb a 16 h)
below_two a b (no h) (yes k) l = absurd (omega arith)
below_two a b (no h) (no k) l = simp (le-ltb a 16 (omega arith), le-ltb b 16 (omega arith))

pub below_both : {a b : ℕ} → a < b → ltb b 16 ≡ (ltb a 16 && ltb b 16)
below_both {a} {b} h = below_two a b (dec_le (suc a) 16) (dec_le (suc b) 16) (omega arith)

pub above_both : {a b : ℕ} → b ≤ a → ltb a 16 ≡ (ltb a 16 && ltb b 16)
above_both {a} {b} h = below_two b a (dec_le (suc b) 16) (dec_le (suc a) 16) h ∙ and_comm (ltb b 16) (ltb a 16)

-- each character of a line of digits is one
each_digit : (line : List ℕ) (k : ℕ) → all_digits line ≡ true → k < length line → digit_of (get_or line k 0) < 16
unfolding all_digits
each_digit [] k a h = absurd (not-suc-le-zero h)
each_digit (b ∷ line) zero a h = ltb-true (digit_of b) 16 (both_true (ltb (digit_of b) 16) (all_digits line) a).0
each_digit (b ∷ line) (suc k) a h = each_digit line k (both_true (ltb (digit_of b) 16) (all_digits line) a).1 (le_of_suc-le-suc h)

-- all of them
module _ {line worth : List ℕ} {most : ℕ} (w : Worth line worth (length line) most) where
  nothing_left : all_digits (drop (length line) line) ≡ true
  unfolding all_digits
  nothing_left = ap all_digits (drop_of_length-le line {i = length line} (omega arith))

  pub all_worth : most ≤ 15 → all_digits line ≡ true
  all_worth h = w.digits ∙ simp (lt-ltb most 16 (omega arith), nothing_left)

  pub not-all : 15 < most → all_digits line ≡ false
  not-all h = w.digits ∙ simp (le-ltb most 16 (omega arith))

  pub digit_most : most ≤ 15 → (k : ℕ) → k < length line → get_or worth k 0 ≤ 15
  digit_most h k l = omega (arith, w.each k l, each_digit line k (all_worth h) l)
