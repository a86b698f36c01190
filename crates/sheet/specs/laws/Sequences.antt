-- From the empty sheet, any sequence of operations acts as on a plain list with holes, answers included. Assumes nothing.
use Rattle.std.specs.Prelude.{◌≡◌, refl, List, [], ◌∷◌, length, Option}
use Rattle.std.proofs.Common.{ap, ◌∙◌}
use Rattle.std.proofs.lemmas.Bool.{eqb-false}
use Rattle.hexadecimals.specs.Digits.{bytes_of}
use Rattle.refusals.specs.declared.Fault.{Fault}
use Rattle.refusals.specs.Order.{Test, first_of}
use Rattle.fields.specs.Bytes.{fields_of}
use Rattle.frame.specs.Tests.{frame_tests, line_tests}
use Rattle.places.specs.declared.Held.{Held}
use Rattle.places.specs.Holes.{at, Plain}
use Rattle.places.specs.laws.Kept.{plain_added, plain_withdrawn, plain_closed}
use Rattle.sheet.specs.declared.Sheet.{Sheet}
use Rattle.sheet.specs.Tests.{add_tests}
use Rattle.sheet.specs.Operations.{Operation, add_frame, add_line, withdraw, close, case_at, Told, adding, held_of, act, list_of}
use Rattle.sheet.specs.Runs.{Run, ends, goes, after, answered}
use Rattle.sheet.specs.laws.Entering.{all_passed}
use Rattle.sheet.specs.laws.Kept.{kept_adding, kept_without}

-- any sheet goes as the list that it stands for
pub run_list : {s : Sheet} {operations : List Operation} {answers : List Told} {t : Sheet} → Run s operations answers t → list_of t ≡ after (list_of s) operations
unfolding after
run_list ends = refl
run_list (goes {operations = operations} d run) = run_list run ∙ ap (λ (xs : List (Option Held)). after xs operations) d.gives.list

pub run_answers : {s : Sheet} {operations : List Operation} {answers : List Told} {t : Sheet} → Run s operations answers t → answers ≡ answered (list_of s) operations
unfolding answered
run_answers ends = refl
run_answers (goes {operations = operations} d run) = rw (run_answers run, d.gives.list, d.gives.answer)

-- from the empty sheet
pub from_empty : {s : Sheet} {operations : List Operation} {answers : List Told} {t : Sheet}
    → list_of s ≡ []
    → Run s operations answers t
    → (list_of t ≡ after [] operations) × (answers ≡ answered [] operations)
from_empty {operations = operations} e run =
    (run_list run ∙ ap (λ (xs : List (Option Held)). after xs operations) e, run_answers run ∙ ap (λ (xs : List (Option Held)). answered xs operations) e)

-- a plain list stays one

plain_adding : (ts : List (Test Fault)) (xs : List (Option Held)) (h : Held) → Plain xs → Plain (adding (first_of (add_tests ts h.case xs)) xs h).list
plain_adding ts xs h p =
    kept_adding (λ (ys : List (Option Held)). Plain ys) _ xs h (λ e. plain_added xs h (eqb-false (length xs) 64 (all_passed ts h.case xs e).2) p) p

pub plain_act : (xs : List (Option Held)) (o : Operation) → Plain xs → Plain (act xs o).list
unfolding act
plain_act xs (add_frame frame u) p = plain_adding (frame_tests frame) xs (held_of (fields_of frame) u) p
plain_act xs (add_line line u) p = plain_adding (line_tests line) xs (held_of (fields_of (bytes_of line)) u) p
plain_act xs (withdraw k) p = kept_without (λ (ys : List (Option Held)). Plain ys) (at xs k) xs k (plain_withdrawn xs k p) p
plain_act xs close p = plain_closed xs p
plain_act xs (case_at k) p = p

pub plain_after : (xs : List (Option Held)) (operations : List Operation) → Plain xs → Plain (after xs operations)
unfolding after
plain_after xs [] p = p
plain_after xs (o ∷ operations) p = plain_after (act xs o).list operations (plain_act xs o p)
