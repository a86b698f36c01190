-- Sums and differences of intervals: what the ends of the result are decides all that is promised of it. Assumes nothing.
use mathlib.Core.Path.{◌≡◌, refl}
use Prim.Native.Nat.{ℕ}
use native.Mathlib.Omega.{arith}
use lib.IntN.{ℤ, ◌+ℤ◌, ◌-ℤ◌}
use Rattle.exact.specs.Fraction.{◌⊞◌, ◌⊟◌, neg}
use Rattle.exact.proofs.laws.Frac.{⊑_trans, ⊞-mono, ⊟-mono}
use Rattle.fixed.specs.declared.Log.{Log}
use Rattle.fixed.specs.FloorAndCeiling.{up, dn}
use Rattle.fixed.specs.Logs.{fixed, bracket}
use Rattle.fixed.specs.Promises.{Summands, LogSum, LogDifference}
use Rattle.fixed.specs.SignedLaws.{least, plus_parts, minus_parts}
use Rattle.signed.specs.Reading.{R}
use Rattle.fixed.proofs.WordSteps.{Step, lower_end, upper_end, plus_step, minus_step}
use Rattle.fixed.specs.EndsAsFractions.{Adds, sum_below, sum_above}

plus : (x y : ℤ) {z : ℤ} → z ≡ x +ℤ y → Adds (up x) (dn x) (up y) (dn y) z
plus x y e = rw e (record { equal = plus_parts x y })

minus : (x y : ℤ) {z : ℤ} → z ≡ x -ℤ y → Adds (up x) (dn x) (dn y) (up y) z
minus x y e = rw e (record { equal = minus_parts x y })

-- a difference of fractions is a sum with the opposite
turn : (a b c d : ℕ) → fixed a b ⊟ fixed c d ≡ fixed a b ⊞ fixed d c
unfolding fixed ◌⊟◌ neg
turn a b c d = refl

module _ (a b r : Log) (s : Summands a b) where
  sum : r.lo ≡ a.lo +ℤ b.lo → r.hi ≡ a.hi +ℤ b.hi → LogSum a b r
  unfolding bracket
  sum e f =
      let l = plus a.lo b.lo e in
      let h = plus a.hi b.hi f in
      let i = least r.lo l.equal in
      let j = least r.hi h.equal in
      record {
        ordered = record { ordered = omega (arith, s.left.ordered, s.right.ordered) };
        holds = λ p q u v.
            record {
              above = ⊑_trans (sum_below l) (⊞-mono u.above v.above);
              below = ⊑_trans (⊞-mono u.below v.below) (sum_above h);
            };
        width = λ C D u v. record { narrow = omega (arith, u.narrow, v.narrow) };
        small = λ L M u v. omega arith;
      }

  difference : r.lo ≡ a.lo -ℤ b.hi → r.hi ≡ a.hi -ℤ b.lo → LogDifference a b r
  unfolding bracket
  difference e f =
      let l = minus a.lo b.hi e in
      let h = minus a.hi b.lo f in
      let i = least r.lo l.equal in
      let j = least r.hi h.equal in
      record {
        ordered = record { ordered = omega (arith, s.left.ordered, s.right.ordered) };
        holds = λ p q u v.
            record {
              above = ⊑_trans (rw turn (sum_below l)) (⊟-mono u.above v.below);
              below = ⊑_trans (⊟-mono u.below v.above) (rw turn (sum_above h));
            };
        width = λ C D u v. record { narrow = omega (arith, u.narrow, v.narrow) };
        small = λ L M u v. omega arith;
      }

-- The machine's steps

module _ {a b : Log} (s : Summands a b) where
  pub sum_lo : Step (R a.lo +ℤ R b.lo) (a.lo +ℤ b.lo)
  sum_lo = plus_step (lower_end s.small_left) (lower_end s.small_right)

  pub sum_hi : Step (R a.hi +ℤ R b.hi) (a.hi +ℤ b.hi)
  sum_hi = plus_step (upper_end s.small_left) (upper_end s.small_right)

  pub sum_returns : LogSum a b (record { lo = R (R a.lo +ℤ R b.lo); hi = R (R a.hi +ℤ R b.hi) })
  sum_returns = sum a b _ s sum_lo.read sum_hi.read

  pub difference_lo : Step (R a.lo -ℤ R b.hi) (a.lo -ℤ b.hi)
  difference_lo = minus_step (lower_end s.small_left) (upper_end s.small_right)

  pub difference_hi : Step (R a.hi -ℤ R b.lo) (a.hi -ℤ b.lo)
  difference_hi = minus_step (upper_end s.small_left) (lower_end s.small_right)

  pub difference_returns : LogDifference a b (record { lo = R (R a.lo -ℤ R b.hi); hi = R (R a.hi -ℤ R b.lo) })
  difference_returns = difference a b _ s difference_lo.read difference_hi.read
