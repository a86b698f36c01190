-- A sequence of operations, each on the sheet that the one before it handed back (request 7).
use Rattle.std.specs.Prelude.{List, [], ◌∷◌, Option}
use Rattle.places.specs.declared.Held.{Held}
use Rattle.sheet.specs.declared.Sheet.{Sheet}
use Rattle.sheet.specs.Operations.{Operation, Told, act, Does}

-- from s, these operations gave these answers, and t
pub data Run : (s : Sheet) (operations : List Operation) (answers : List Told) (t : Sheet) → Type 0 where
  ends : {s : Sheet} → Run s [] [] s
  goes
      : {s : Sheet} {o : Operation} {told : Told} {u : Sheet} {operations : List Operation} {answers : List Told} {t : Sheet} →
      Does s o u told →
      Run u operations answers t →
      Run s (o ∷ operations) (told ∷ answers) t

-- the same on a plain list with holes: the list after the operations, and their answers
unfoldable pub after : List (Option Held) → List Operation → List (Option Held)
after xs [] = xs
after xs (o ∷ operations) = after (act xs o).list operations

unfoldable pub answered : List (Option Held) → List Operation → List Told
answered xs [] = []
answered xs (o ∷ operations) = (act xs o).told ∷ answered (act xs o).list operations
