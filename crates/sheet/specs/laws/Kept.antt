-- What adding and withdrawing keep of a list, and what a sequence keeps of a sheet. Assumes nothing.
use Rattle.std.specs.Prelude.{ℕ, ◌≡◌, List, Option, None, Some}
use Rattle.std.proofs.Math.Path.{refl}
use Rattle.std.proofs.Math.Option as maybe
use Rattle.std.proofs.Math.Option.{none, some}
use Rattle.places.specs.declared.Held.{Held}
use Rattle.places.specs.Holes.{added, withdrawn}
use Rattle.sheet.specs.declared.Sheet.{Sheet}
use Rattle.sheet.specs.declared.Refusal.{Refusal}
use Rattle.sheet.specs.Operations.{Operation, Told, adding, without, Does}
use Rattle.sheet.specs.Runs.{Run, ends, goes}

module _ (Q : List (Option Held) → Type 0) where
  pub kept_adding : (o : maybe.Option Refusal) (xs : List (Option Held)) (c : Held) → (o ≡ none → Q (added xs c)) → Q xs → Q (adding o xs c).list
  unfolding adding
  kept_adding none xs c more h = more refl
  kept_adding (some r) xs c more h = h

  pub kept_without : (x : Option Held) (xs : List (Option Held)) (k : ℕ) → Q (withdrawn xs k) → Q xs → Q (without x xs k)
  kept_without None xs k less h = h
  kept_without (Some c) xs k less h = less

-- what each operation keeps of a sheet, a sequence keeps
pub kept_run : {s t : Sheet} {operations : List Operation} {answers : List Told} (Q : Sheet → Type 0)
    → ((s t : Sheet) (o : Operation) (told : Told) → Does s o t told → Q s → Q t)
    → Run s operations answers t
    → Q s
    → Q t
kept_run Q kept ends h = h
kept_run Q kept (goes {s = s} {o = o} {told = told} {u = u} d run) h = kept_run Q kept run (kept s u o told d h)
