-- A line and the frame that it spells get the same answer; and the two damages of each probit of an answer are equal or neighbours. Assumes nothing.
use Rattle.std.specs.Prelude.{◌≡◌, true, List, ℕ, ◌+◌, ◌≤◌, ℤ, pos, negsuc, length}
use Rattle.std.proofs.Common.{◌∙◌, arith}
use Rattle.signed.specs.TwoParts.{up, dn}
use Rattle.exact.specs.Fraction.{◌⊑◌, ◌⊞◌, neg, ◌⊟◌}
use Rattle.exact.specs.Formula.{Formula}
use Rattle.guidance.specs.declared.Case.{Case}
use Rattle.damage.specs.Damage.{damage}
use Rattle.damage.specs.laws.Readings.{Neighbours, neighbours}
use Rattle.frame.specs.Verdict.{Verdict}
use Rattle.hexadecimals.specs.Digits.{all_digits, bytes_of}
use Rattle.frame.specs.Tests.{either}
use Rattle.frame.specs.laws.Verdicts.{line_frame}
use Rattle.layout.specs.declared.Five.{Five}
use Rattle.layout.specs.declared.Interval.{Interval}
use Rattle.exact.specs.Between.{whole_z}
use Rattle.answer.specs.Answer.{ProbitEnds, reading, readings, Answer, FromFrame, FromLine}

-- what is promised of a line of 44 or 48 digits is what is promised of its bytes
pub line_as_frame : (line before : List ℕ) (v : Verdict) (after : List ℕ) → either 44 48 line ≡ true → all_digits line ≡ true
    → FromLine line before v after → FromFrame (bytes_of line) before v after
line_as_frame line before v after h d f =
    record { verdict = f.verdict ∙ line_frame line (length before) h d; area = f.area }

-- the ends of a probit, in the form of `neighbours`

in_order : (l u : ℤ) → whole_z l ⊑ whole_z u → up l + dn u ≤ up u + dn l
unfolding whole_z
in_order (pos a) (pos b) h = omega (arith, h.cross)
in_order (pos a) (negsuc b) h = omega (arith, h.cross)
in_order (negsuc a) (pos b) h = omega (arith, h.cross)
in_order (negsuc a) (negsuc b) h = omega (arith, h.cross)

near : (l u : ℤ) → whole_z u ⊟ whole_z l ⊑ whole_z (pos 2) → up u + dn l ≤ up l + dn u + 2
unfolding whole_z ◌⊟◌ ◌⊞◌ neg
near (pos a) (pos b) h = omega (arith, h.cross)
near (pos a) (negsuc b) h = omega (arith, h.cross)
near (negsuc a) (pos b) h = omega (arith, h.cross)
near (negsuc a) (negsuc b) h = omega (arith, h.cross)

beside : {x : Formula} {p : Interval ℤ} → ProbitEnds x p → Neighbours (damage p.lower) (damage p.upper)
beside {p = p} e = neighbours p.lower p.upper (in_order _ _ e.value.ordered) (near _ _ e.closed)

-- document 01: the two damage ends of each probit of an answer are equal or neighbours in the table
pub record DamagesNear (d : Five (Interval ℕ)) : Type 0 where
  pub first : Neighbours d.first.lower d.first.upper
  pub second : Neighbours d.second.lower d.second.upper
  pub third : Neighbours d.third.lower d.third.upper
  pub fourth : Neighbours d.fourth.lower d.fourth.upper
  pub fifth : Neighbours d.fifth.lower d.fifth.upper

pub damages_near : {c : Case} {bytes : List ℕ} (a : Answer c bytes) → DamagesNear (readings a.probits)
unfolding readings reading
damages_near a =
    record {
      first = beside a.first;
      second = beside a.second;
      third = beside a.third;
      fourth = beside a.fourth;
      fifth = beside a.fifth;
    }
