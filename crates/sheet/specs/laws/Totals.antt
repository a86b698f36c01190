-- After every sequence of operations the totals are those worked from the sheet afresh (request 8). Assumes nothing.
use Rattle.std.specs.Prelude.{◌≡◌, List, []}
use Rattle.std.proofs.Common.{ap, ◌∙◌}
use Rattle.totals.specs.Totals.{totals_of}
use Rattle.sheet.specs.declared.Sheet.{Sheet}
use Rattle.sheet.specs.Operations.{Operation, Told, list_of, Right}
use Rattle.sheet.specs.Runs.{Run, after}
use Rattle.sheet.specs.laws.Kept.{kept_run}
use Rattle.sheet.specs.laws.Sequences.{from_empty}

pub right_after : {s t : Sheet} {operations : List Operation} {answers : List Told} → Run s operations answers t → Right s → Right t
right_after run = kept_run (λ (s : Sheet). Right s) (λ s t o told d h. d.gives.totals h) run

-- from the empty sheet: the totals of the plain list after the same operations
pub totals_from_empty : {s t : Sheet} {operations : List Operation} {answers : List Told} → (list_of s ≡ []) × Right s → Run s operations answers t
    → (t.totals ≡ totals_of (list_of t)) × (t.totals ≡ totals_of (after [] operations))
totals_from_empty e run = let right = right_after run e.1 in (right, right ∙ ap totals_of (from_empty e.0 run).0)
