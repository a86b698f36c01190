-- From an interval of fractions that holds an exact value to whole numbers around it. Assumes nothing.
use Rattle.std.specs.Prelude.{ℕ, ℤ, pos}
use Rattle.std.proofs.Common.{arith}
use Rattle.exact.specs.Fraction.{Frac, ◌⊑◌, zero_f, ◌⊠◌}
use Rattle.exact.specs.Bracket.{Bracket}
use Rattle.exact.specs.Formula.{Formula}
use Rattle.exact.specs.Holding.{Holds}
use Rattle.exact.specs.Between.{whole_z, times, ExactBetween}
use Rattle.exact.proofs.laws.Frac.{scale_mono, ⊑_trans}
use Rattle.exact.proofs.laws.Meeting.{any_two_meet}
use Rattle.exact.proofs.laws.OneValue.{holds_closes}

-- multiplied by k, an order stays
pub times_mono : (k : ℕ) {a b : Frac} → a ⊑ b → whole_z (pos k) ⊠ a ⊑ whole_z (pos k) ⊠ b
unfolding zero_f whole_z
times_mono k h = scale_mono (record { cross = omega arith }) h

-- l and u lie around k times the interval
pub between
    : (k : ℕ) {I : Bracket} {x : Formula} {l u : ℤ} →
    Holds I x →
    whole_z l ⊑ whole_z (pos k) ⊠ I.lo →
    whole_z (pos k) ⊠ I.hi ⊑ whole_z u →
    ExactBetween k x l u
unfolding times
between k {x = x} h below above =
    record {
      ordered = ⊑_trans below (⊑_trans (times_mono k h.ordered) above);
      meets = λ n o B e.
          let m = h.meets n o B e in
          record { first = ⊑_trans below (times_mono k m.first); second = ⊑_trans (times_mono k m.second) above };
      there = h.there;
      agree = any_two_meet x;
      closes = holds_closes h;
    }
