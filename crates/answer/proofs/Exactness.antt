-- From what the probits promise of their ends to demand 3's own terms. Assumes nothing.
use Prim.Native.Nat.{◌+◌, ◌^◌, ◌≤◌, ◌<◌}
use native.Mathlib.Omega.{arith}
use lib.IntN.{ℤ, pos, negsuc}
use lib.Signed.{mag}
use Rattle.signed.specs.TwoParts.{up, dn}
use Rattle.exact.specs.Fraction.{◌⊑◌, ◌⊞◌, neg, ◌⊟◌, ◌⊠◌}
use Rattle.exact.specs.Formula.{Formula}
use Rattle.exact.specs.Holding.{Holds}
use Rattle.fixed.specs.Millis.{milli, millis}
use Rattle.probits.specs.Promises.{Thousandth}
use Rattle.layout.specs.declared.Interval.{Interval}
use Rattle.exact.specs.Between.{whole_z}
use Rattle.exact.proofs.laws.Between.{between}
use Rattle.answer.specs.Answer.{ProbitEnds}

lower_milli : (z : ℤ) → whole_z z ⊑ whole_z (pos 1000) ⊠ milli z
unfolding milli whole_z ◌⊠◌
lower_milli (pos a) = record { cross = omega arith }
lower_milli (negsuc a) = record { cross = omega arith }

upper_milli : (z : ℤ) → whole_z (pos 1000) ⊠ milli z ⊑ whole_z z
unfolding milli whole_z ◌⊠◌
upper_milli (pos a) = record { cross = omega arith }
upper_milli (negsuc a) = record { cross = omega arith }

two_apart : (l u : ℤ) → up u + dn l ≤ up l + dn u + 2 → whole_z u ⊟ whole_z l ⊑ whole_z (pos 2)
unfolding whole_z ◌⊟◌ ◌⊞◌ neg
two_apart (pos a) (pos b) h = record { cross = omega arith }
two_apart (pos a) (negsuc b) h = record { cross = omega arith }
two_apart (negsuc a) (pos b) h = record { cross = omega arith }
two_apart (negsuc a) (negsuc b) h = record { cross = omega arith }

mag_of : (z : ℤ) → up z < 2 ^ 31 → dn z < 2 ^ 31 → mag z < 2 ^ 31
mag_of (pos n) u d = omega arith
mag_of (negsuc n) u d = omega arith

pub probit_ends : {x : Formula} (p : Interval ℤ) → Holds (millis p.lower p.upper) x → Thousandth p.lower p.upper → ProbitEnds x p
unfolding millis
probit_ends p h k =
    record {
      value = between 1000 h (lower_milli p.lower) (upper_milli p.upper);
      closed = two_apart p.lower p.upper k.narrow;
      lower_fits = mag_of p.lower k.lower_up k.lower_dn;
      upper_fits = mag_of p.upper k.upper_up k.upper_dn;
    }
