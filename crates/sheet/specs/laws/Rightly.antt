-- What operations put on a sheet: cases that passed tests 1 to 7, each with an upper end of its exact ΔP. Assumes nothing.
use Rattle.std.specs.Prelude.{ℕ, ◌≡◌, List, [], Option}
use Rattle.std.proofs.Common.{ap, ◌∙◌}
use Rattle.std.proofs.Math.Option as maybe
use Rattle.std.proofs.Math.Option.{none}
use Rattle.guidance.specs.declared.Case.{Case}
use Rattle.guidance.specs.Cases.{Accepted}
use Rattle.guidance.specs.CloudWords.{Heated}
use Rattle.guidance.specs.AirPressure.{air_of}
use Rattle.guidance.proofs.laws.Domain.{accepted}
use Rattle.hexadecimals.specs.Digits.{bytes_of}
use Rattle.refusals.specs.declared.Fault.{Fault}
use Rattle.refusals.specs.Order.{Test, first_of}
use Rattle.fields.specs.Bytes.{fields_of}
use Rattle.frame.specs.Tests.{frame_tests, line_tests}
use Rattle.frame.specs.laws.Checks.{frame_clear, line_clear}
use Rattle.places.specs.declared.Held.{Held}
use Rattle.places.specs.Holes.{at, Each}
use Rattle.places.specs.laws.Kept.{each_added, each_withdrawn, each_closed}
use Rattle.sheet.specs.declared.Sheet.{Sheet}
use Rattle.sheet.specs.declared.Refusal.{Refusal}
use Rattle.sheet.specs.Tests.{add_tests}
use Rattle.sheet.specs.Ends.{UpperEnd}
use Rattle.sheet.specs.Operations.{Operation, add_frame, add_line, withdraw, close, case_at, Told, adding, held_of, refusal, act, EndFound, list_of, Does}
use Rattle.sheet.specs.Runs.{Run}
use Rattle.sheet.specs.laws.Entering.{all_passed}
use Rattle.sheet.specs.laws.Kept.{kept_adding, kept_without, kept_run}

-- an accepted case, with an upper end of its own
pub record RightlyHeld (h : Held) : Type 0 where
  pub accepted : Accepted (air_of h.case) h.case
  pub end : UpperEnd h.case h.upper

module _ (ts : List (Test Fault)) (c : Case) (u : ℕ) (xs : List (Option Held)) (heated : first_of ts ≡ none → Heated c) where
  -- no test applies: the case is taken with its end
  not_refused : (o : maybe.Option Refusal) → o ≡ none → refusal (adding o xs (held_of c u)).told ≡ none
  unfolding adding
  not_refused o e = rw e

  rightly_adding : (refusal (adding (first_of (add_tests ts c xs)) xs (held_of c u)).told ≡ none → UpperEnd c u) → Each RightlyHeld xs
      → Each RightlyHeld (adding (first_of (add_tests ts c xs)) xs (held_of c u)).list
  rightly_adding end h =
      kept_adding (λ (ys : List (Option Held)). Each RightlyHeld ys) _ xs (held_of c u)
      (λ e.
      let passed = all_passed ts c xs e in
      each_added RightlyHeld xs (held_of c u) (record { accepted = accepted (heated passed.0) passed.1; end = end (not_refused _ e) }) h)
      h

pub rightly_act : (xs : List (Option Held)) (o : Operation) → (refusal (act xs o).told ≡ none → EndFound o) → Each RightlyHeld xs
    → Each RightlyHeld (act xs o).list
unfolding act
rightly_act xs (add_frame frame u) end h = rightly_adding (frame_tests frame) (fields_of frame) u xs (λ e. (frame_clear frame e).1) end h
rightly_act xs (add_line line u) end h = rightly_adding (line_tests line) (fields_of (bytes_of line)) u xs (λ e. (line_clear line e).2) end h
rightly_act xs (withdraw k) end h =
    kept_without (λ (ys : List (Option Held)). Each RightlyHeld ys) (at xs k) xs k (each_withdrawn RightlyHeld xs k h) h
rightly_act xs close end h = each_closed RightlyHeld xs h
rightly_act xs (case_at k) end h = h

-- of a sheet, through an operation
rightly_does : (s t : Sheet) (o : Operation) (told : Told) → Does s o t told → Each RightlyHeld (list_of s) → Each RightlyHeld (list_of t)
rightly_does s t o told d h = rw d.gives.list (rightly_act (list_of s) o (λ e. d.ends (ap refusal d.gives.answer ∙ e)) h)

pub rightly_from_empty : {s t : Sheet} {operations : List Operation} {answers : List Told} → list_of s ≡ [] → Run s operations answers t
    → Each RightlyHeld (list_of t)
unfolding Each
rightly_from_empty e run = kept_run (λ (s : Sheet). Each RightlyHeld (list_of s)) rightly_does run (rw e tt)
