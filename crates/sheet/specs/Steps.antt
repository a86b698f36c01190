-- What the steps of adding promise one another.
use Rattle.std.specs.Prelude.{ℕ, ◌≡◌, List, [], ◌∷◌, Option, Result, Err, Ok}
use Rattle.std.proofs.Math.Option as maybe
use Rattle.std.proofs.Math.Option.{none}
use Rattle.guidance.specs.declared.Case.{Case}
use Rattle.refusals.specs.Order.{◌when◌, first_of}
use Rattle.limits.specs.Checked.{Checked}
use Rattle.frame.specs.Tests.{beyond}
use Rattle.places.specs.declared.Held.{Held}
use Rattle.sheet.specs.declared.Sheet.{Sheet}
use Rattle.sheet.specs.declared.Refusal.{Refusal}
use Rattle.sheet.specs.declared.Refusal.TheVariants.{Faulty, Beyond, Full}
use Rattle.sheet.specs.Tests.{full}
use Rattle.sheet.specs.Ends.{UpperEnd}
use Rattle.sheet.specs.Operations.{Outcome, placing, adding, held_of, refusal, list_of, Gives}

-- by tests 7 and 17
abbrev pub last : Case → List (Option Held) → maybe.Option Refusal
last c xs = first_of ((Beyond when beyond c) ∷ (Full when full xs) ∷ [])

-- by what tests 1 to 6 found: the outcome with an end, and what the end is where the case is taken
abbrev pub entered : Checked → List (Option Held) → (upper : ℕ) → Outcome
entered (Ok c) xs u = adding (last c xs) xs (held_of c u)
entered (Err f) xs u = record { list = xs; told = placing (Err (Faulty f)) }

abbrev pub EndOf : Checked → (upper : ℕ) → Type 0
EndOf (Ok c) u = UpperEnd c u
EndOf (Err f) u = ⊥

pub record Enters (s : Sheet) (k : Checked) (t : Sheet) (answer : Result ℕ Refusal) : Type 0 where
  pub upper : ℕ
  pub gives : Gives s (entered k (list_of s) upper) t (placing answer)
  pub ends : refusal (placing answer) ≡ none → EndOf k upper
