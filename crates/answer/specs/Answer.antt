-- What an accepted case's answer frame is (document 01, "The answer frame", "What exact means"), and what the entries promise.
-- The interval ends are open: they enclose their value within the written width. All else is an equation.
use Rattle.std.specs.Prelude.{ℤ, ℕ, ◌^◌, ◌<◌, ◌≡◌, List, pos, length, take, drop, Err, Ok}
use Rattle.std.specs.Int.Signed.{mag}
use Rattle.exact.specs.Fraction.{◌⊑◌, ◌⊟◌}
use Rattle.exact.specs.Formula.{Formula}
use Rattle.exact.specs.Between.{whole_z, ExactBetween}
use Rattle.guidance.specs.declared.Case.{Case}
use Rattle.guidance.specs.Clouds.{range_of}
use Rattle.guidance.specs.AirPressure.{air_of}
use Rattle.guidance.specs.Waves.{overpressure, impulse}
use Rattle.guidance.specs.Probits.{probit1, probit2, probit3, probit4, probit5}
use Rattle.damage.specs.Damage.{damage}
use Rattle.frame.specs.Verdict.{Verdict}
use Rattle.frame.specs.Verdicts.{frame_verdict, line_verdict}
use Rattle.blast.specs.WaveEnds.{WaveEnds}
use Rattle.layout.specs.declared.Five.{Five}
use Rattle.layout.specs.declared.Interval.{Interval}
use Rattle.layout.specs.Places.{answer_bytes}

-- a probit in thousandths: upper - lower is at most 2
pub record ProbitEnds (x : Formula) (p : Interval ℤ) : Type 0 where
  pub value : ExactBetween 1000 x p.lower p.upper
  pub closed : whole_z p.upper ⊟ whole_z p.lower ⊑ whole_z (pos 2)
  pub lower_fits : mag p.lower < 2 ^ 31
  pub upper_fits : mag p.upper < 2 ^ 31

-- the lower damage is read at the lower end of the probit, the upper at the upper end
unfoldable pub reading : Interval ℤ → Interval ℕ
reading p = record { lower = damage p.lower; upper = damage p.upper }

unfoldable pub readings : Five (Interval ℤ) → Five (Interval ℕ)
readings p =
    record {
      first = reading p.first;
      second = reading p.second;
      third = reading p.third;
      fourth = reading p.fourth;
      fifth = reading p.fifth;
    }

-- DEMAND 3, of one answer frame: its 77 bytes are the range, the ends of the seven intervals and the ten damages in their places
pub record Answer (c : Case) (bytes : List ℕ) : Type 0 where
  pub size : length bytes ≡ 77
  pub pascals : Interval ℕ
  pub pascal_seconds : Interval ℕ
  pub probits : Five (Interval ℤ)
  pub are : bytes ≡ answer_bytes (range_of c) pascals pascal_seconds probits (readings probits)
  pub pressure_ends : WaveEnds (overpressure (air_of c) c) pascals
  pub impulse_ends : WaveEnds (impulse (air_of c) c) pascal_seconds
  pub first : ProbitEnds (probit1 (air_of c) c) probits.first
  pub second : ProbitEnds (probit2 (air_of c) c) probits.second
  pub third : ProbitEnds (probit3 (air_of c) c) probits.third
  pub fourth : ProbitEnds (probit4 (air_of c) c) probits.fourth
  pub fifth : ProbitEnds (probit5 (air_of c) c) probits.fifth

-- an accepted case writes the area's first 77 bytes only
pub record Wrote (c : Case) (before after : List ℕ) : Type 0 where
  pub answer : Answer c (take 77 after)
  pub rest : drop 77 after ≡ drop 77 before
  pub same : length after ≡ length before

-- by the verdict: a refusal leaves the area as it was
abbrev pub Answered : (v : Verdict) (before after : List ℕ) → Type 0
Answered (Ok c) before after = Wrote c before after
Answered (Err r) before after = after ≡ before

-- the entries: what comes back is the verdict, and the area is as the verdict says; a line is judged as the frame that it spells
pub record FromFrame (frame before : List ℕ) (v : Verdict) (after : List ℕ) : Type 0 where
  pub verdict : v ≡ frame_verdict frame (length before)
  pub area : Answered v before after

pub record FromLine (line before : List ℕ) (v : Verdict) (after : List ℕ) : Type 0 where
  pub verdict : v ≡ line_verdict line (length before)
  pub area : Answered v before after
