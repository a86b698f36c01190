-- What the steps of the search ask and give one another.
use Rattle.std.specs.Prelude.{ℕ, ◌+◌, ◌^◌, ◌≤◌, ◌<◌, ◌≡◌, false, Err, Ok}
use Rattle.guidance.specs.declared.Case.{Case}
use Rattle.guidance.specs.AirPressure.{air_of}
use Rattle.guidance.specs.Cases.{Air}
use Rattle.guidance.specs.CloudWords.{Heated}
use Rattle.guidance.specs.Waves.{overpressure}
use Rattle.guidance.specs.Distances.{farther, cube24}
use Rattle.limits.specs.Checked.{Checked}
use Rattle.refusals.specs.Order.{first_of}
use Rattle.layout.specs.declared.Interval.{Interval}
use Rattle.blast.specs.Promises.{Ended}
use Rattle.bisection.specs.Bisection.{Between}
use Rattle.receptor.specs.Receptor.{moved, farthest}
use Rattle.receptor.specs.laws.Moved.{Permitted}
use Rattle.ring.specs.declared.Side.{Side}
use Rattle.ring.specs.declared.Side.TheVariants.{Lower, Upper}
use Rattle.ring.specs.declared.Refusal.TheVariants.{Faulty}
use Rattle.ring.specs.Answer.{Answer}
use Rattle.ring.specs.Ring.{last_tests, Answers}

abbrev pub end_of : Side → Interval ℕ → ℕ
end_of Lower e = e.lower
end_of Upper e = e.upper

-- ends of ΔP at the distance d, in Pa
pub record PressureAt (air : ℕ) (c : Case) (d : ℕ) : Type 0 where
  pub ends : Interval ℕ
  pub ended : Ended (overpressure air (moved c d)) (2 ^ 24) ends

-- the lower or the upper end at d reaches the threshold t; it does not
pub record Reaches (side : Side) (air : ℕ) (c : Case) (t d : ℕ) : Type 0 where
  pub pressure : PressureAt air c d
  pub reaches : t ≤ end_of side pressure.ends

pub record Below (side : Side) (air : ℕ) (c : Case) (t d : ℕ) : Type 0 where
  pub pressure : PressureAt air c d
  pub below : end_of side pressure.ends < t

-- a case that has passed tests 1 to 6, accepted at the distance d
pub record Standing (air : ℕ) (c : Case) (d : ℕ) : Type 0 where
  pub heated : Heated c
  pub pressure : Air air
  pub permitted : Permitted d
  pub within : farther cube24 air (moved c d) ≡ false

-- the search is between a distance where the end reaches the threshold and a farther one where it does not
pub record Searched (side : Side) (air : ℕ) (c : Case) (t near far : ℕ) : Type 0 where
  pub standing : Standing air c far
  pub least : 1 ≤ near
  pub between : Between (Reaches side air c t) (Below side air c t) near far

pub record Edge (side : Side) (air : ℕ) (c : Case) (t near far r : ℕ) : Type 0 where
  pub least : near ≤ r
  pub most : r < far
  pub reaches : Reaches side air c t r
  pub next : Below side air c t (r + 1)

-- the threshold is reached at 1 cm and not at the farthest distance
pub record Crossed (air : ℕ) (c : Case) (t far : ℕ) : Type 0 where
  pub standing : Standing air c far
  pub is_farthest : far ≡ farthest air c
  pub more : 1 < far
  pub first : Reaches Lower air c t 1
  pub last : Below Upper air c t far

-- test 9, then what fits
abbrev pub RingFor : (air : ℕ) (c : Case) (t : ℕ) → Answer → Type 0
RingFor air c t answer = Answers (first_of (last_tests air t)) air c t answer

-- what tests 1 to 6 found stands, else this, in the case's own air
abbrev pub AnswerTo : Checked → (t : ℕ) → Answer → Type 0
AnswerTo (Ok c) t answer = RingFor (air_of c) c t answer
AnswerTo (Err f) t answer = answer ≡ Err (Faulty f)
