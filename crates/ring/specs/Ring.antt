-- The ring of a threshold: an inner and an outer distance (request 1).
-- The interval ends are open, any that hold ΔP within the width rule. So several rings may fit, and more than one of refusal 10, refusal 11
-- and a ring. What comes back is one that fits, by one choice of ends: a pair for each distance.
use Rattle.std.specs.Prelude.{ℕ, ◌+◌, ◌*◌, ◌-◌, ◌≤◌, ◌<◌, ◌≡◌, List, [], ◌∷◌, ◌++◌, Ok, Err}
use Rattle.std.proofs.Math.Option.{Option, none, some}
use Rattle.guidance.specs.declared.Case.{Case}
use Rattle.guidance.specs.AirPressure.{air_of}
use Rattle.guidance.specs.Waves.{overpressure}
use Rattle.hexadecimals.specs.Digits.{bytes_of}
use Rattle.refusals.specs.declared.Fault.{Fault}
use Rattle.refusals.specs.Order.{Test, ◌when◌, first_of, held}
use Rattle.fields.specs.Bytes.{fields_of}
use Rattle.limits.specs.Tests.{outside}
use Rattle.frame.specs.Tests.{frame_tests, line_tests}
use Rattle.layout.specs.declared.Interval.{Interval}
use Rattle.blast.specs.WaveEnds.{WaveEnds}
use Rattle.receptor.specs.Receptor.{moved, farthest}
use Rattle.ring.specs.declared.Refusal.{Refusal}
use Rattle.ring.specs.declared.Refusal.TheVariants.{Faulty, Threshold, Weak, Strong}
use Rattle.ring.specs.Answer.{Answer}

-- test 9: a threshold is 1 to 18·P0 Pa by the case's own P0 (request 11), which is 1,823,400 at 101,300
unfoldable pub last_tests : (air t : ℕ) → List (Test Refusal)
last_tests air t = (Threshold when outside 1 (18 * air) t) ∷ []

-- tests 1 to 6, then 9
unfoldable pub tests : List (Test Fault) → (air t : ℕ) → List (Test Refusal)
tests given air t = held Faulty given ++ last_tests air t

-- a choice of ends; the pair chosen at d holds ΔP there
abbrev pub HoldsAt : (air : ℕ) (c : Case) (ends : ℕ → Interval ℕ) (d : ℕ) → Type 0
HoldsAt air c ends d = WaveEnds (overpressure air (moved c d)) (ends d)

-- 10: the lower end at 1 cm is below the threshold
pub record IsWeak (air : ℕ) (c : Case) (t : ℕ) : Type 0 where
  pub ends : ℕ → Interval ℕ
  pub at_first : HoldsAt air c ends 1
  pub below : (ends 1).lower < t

-- 11: it is not, and neither is the upper end at the farthest distance
pub record IsStrong (air : ℕ) (c : Case) (t : ℕ) : Type 0 where
  pub ends : ℕ → Interval ℕ
  pub at_first : HoldsAt air c ends 1
  pub at_last : HoldsAt air c ends (farthest air c)
  pub reaches : t ≤ (ends 1).lower
  pub not-below : t ≤ (ends (farthest air c)).upper

-- neither 10 nor 11; at the inner distance the lower end reaches the threshold, and one cm farther it does not;
-- at the outer distance the upper end is below it, and one cm nearer it is not
pub record IsRing (air : ℕ) (c : Case) (t inner outer : ℕ) : Type 0 where
  pub ends : ℕ → Interval ℕ
  pub least : 1 ≤ inner
  pub order : inner < outer
  pub most : outer ≤ farthest air c
  pub at_first : HoldsAt air c ends 1
  pub at_inner : HoldsAt air c ends inner
  pub after_inner : HoldsAt air c ends (inner + 1)
  pub before_outer : HoldsAt air c ends (outer - 1)
  pub at_outer : HoldsAt air c ends outer
  pub at_last : HoldsAt air c ends (farthest air c)
  pub first_reaches : t ≤ (ends 1).lower
  pub inner_reaches : t ≤ (ends inner).lower
  pub inner_next : (ends (inner + 1)).lower < t
  pub outer_previous : t ≤ (ends (outer - 1)).upper
  pub outer_below : (ends outer).upper < t
  pub last_below : (ends (farthest air c)).upper < t

-- what fits where none of tests 1 to 6 and 9 applies
abbrev pub Fits : (air : ℕ) (c : Case) (t : ℕ) → Answer → Type 0
Fits air c t (Ok ring) = IsRing air c t ring.inner ring.outer
Fits air c t (Err Weak) = IsWeak air c t
Fits air c t (Err Strong) = IsStrong air c t
Fits air c t (Err Threshold) = ⊥
Fits air c t (Err (Faulty f)) = ⊥

-- the first test that applies refuses; the case's own distance is tested, and not used otherwise
abbrev pub Answers : Option Refusal → (air : ℕ) (c : Case) (t : ℕ) → Answer → Type 0
Answers (some r) air c t answer = answer ≡ Err r
Answers none air c t answer = Fits air c t answer

-- the entries: a case and its own tests, in its own air
abbrev pub OwnRing : List (Test Fault) → (c : Case) (t : ℕ) → Answer → Type 0
OwnRing given c t answer = Answers (first_of (tests given (air_of c) t)) (air_of c) c t answer

abbrev pub FromFrame : (frame : List ℕ) (t : ℕ) → Answer → Type 0
FromFrame frame t answer = OwnRing (frame_tests frame) (fields_of frame) t answer

abbrev pub FromLine : (line : List ℕ) (t : ℕ) → Answer → Type 0
FromLine line t answer = OwnRing (line_tests line) (fields_of (bytes_of line)) t answer
