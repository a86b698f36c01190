-- The operations on a plain list with holes, and what a sheet promises of each (request 7); the ends and totals that it keeps (request 8).
use Rattle.std.specs.Prelude.{ℕ, ◌+◌, ◌≡◌, List, length, Option, None, Some, Result, Ok, Err}
use Rattle.std.proofs.Math.Option as maybe
use Rattle.std.proofs.Math.Option.{none, some}
use Rattle.guidance.specs.declared.Case.{Case}
use Rattle.hexadecimals.specs.Digits.{bytes_of}
use Rattle.refusals.specs.Order.{first_of}
use Rattle.fields.specs.Bytes.{fields_of}
use Rattle.frame.specs.Tests.{frame_tests, line_tests}
use Rattle.places.specs.declared.Held.{Held}
use Rattle.places.specs.Holes.{at, added, withdrawn, closed}
use Rattle.places.specs.Places.{stands_for}
use Rattle.totals.specs.Totals.{totals_of}
use Rattle.sheet.specs.declared.Sheet.{Sheet}
use Rattle.sheet.specs.declared.Refusal.{Refusal}
use Rattle.sheet.specs.declared.Vacancy.{Vacancy}
use Rattle.sheet.specs.Refusals.{number, vacancy_number}
use Rattle.sheet.specs.Tests.{add_tests}
use Rattle.sheet.specs.Ends.{UpperEnd}

-- with a case comes the upper end that was found of it: a list cannot find one
pub data Operation : Type 0 where
  add_frame : (frame : List ℕ) (upper : ℕ) → Operation
  add_line : (line : List ℕ) (upper : ℕ) → Operation
  withdraw : (place : ℕ) → Operation
  close : Operation
  case_at : (place : ℕ) → Operation

-- an answer: of adding, of a place, of closing
pub data Told : Type 0 where
  placing : Result ℕ Refusal → Told
  finding : Result Case Vacancy → Told
  counting : ℕ → Told

-- the list after an operation, and the answer
pub record Outcome : Type 0 where
  pub list : List (Option Held)
  pub told : Told

-- the first test that applies refuses; a case to which none applies goes right after the last, and its place is told
unfoldable pub adding : maybe.Option Refusal → List (Option Held) → Held → Outcome
adding none xs h = record { list = added xs h; told = placing (Ok (length xs + 1)) }
adding (some r) xs h = record { list = xs; told = placing (Err r) }

abbrev pub found_in : Option Held → Result Case Vacancy
found_in None = Err (record {})
found_in (Some h) = Ok h.case

unfoldable pub found : List (Option Held) → (place : ℕ) → Result Case Vacancy
found xs k = found_in (at xs k)

-- a case that is there leaves a gap, else nothing happens
abbrev pub without : Option Held → List (Option Held) → (place : ℕ) → List (Option Held)
without None xs k = xs
without (Some h) xs k = withdrawn xs k

abbrev pub held_of : Case → (upper : ℕ) → Held
held_of c u = record { case = c; upper = u }

unfoldable pub act : List (Option Held) → Operation → Outcome
act xs (add_frame frame u) = adding (first_of (add_tests (frame_tests frame) (fields_of frame) xs)) xs (held_of (fields_of frame) u)
act xs (add_line line u) = adding (first_of (add_tests (line_tests line) (fields_of (bytes_of line)) xs)) xs (held_of (fields_of (bytes_of line)) u)
act xs (withdraw k) = record { list = without (at xs k) xs k; told = finding (found xs k) }
act xs close = record { list = closed xs; told = counting (length (closed xs)) }
act xs (case_at k) = record { list = xs; told = finding (found xs k) }

-- the refusal in an answer, by its number
abbrev pub refusal : Told → maybe.Option ℕ
refusal (placing (Ok k)) = none
refusal (placing (Err r)) = some (number r)
refusal (finding (Ok c)) = none
refusal (finding (Err v)) = some (vacancy_number v)
refusal (counting n) = none

-- the end that is given with a case is one of its own
abbrev pub EndFound : Operation → Type 0
EndFound (add_frame frame u) = UpperEnd (fields_of frame) u
EndFound (add_line line u) = UpperEnd (fields_of (bytes_of line)) u
EndFound (withdraw k) = Unit {0}
EndFound close = Unit {0}
EndFound (case_at k) = Unit {0}

-- the list that a sheet stands for
unfoldable pub list_of : Sheet → List (Option Held)
list_of s = stands_for s.places

-- the totals are those worked afresh
abbrev pub Right : Sheet → Type 0
Right s = s.totals ≡ totals_of (list_of s)

-- t and this answer are the outcome x; a refusal hands the sheet back equal; right totals stay right, of others nothing is said
pub record Gives (s : Sheet) (x : Outcome) (t : Sheet) (told : Told) : Type 0 where
  pub list : list_of t ≡ x.list
  pub answer : told ≡ x.told
  pub same : (n : ℕ) → refusal told ≡ some n → t ≡ s
  pub totals : Right s → Right t

-- the operation on the list that s stands for, with an end of the case that it takes
pub record Does (s : Sheet) (o : Operation) (t : Sheet) (told : Told) : Type 0 where
  pub gives : Gives s (act (list_of s) o) t told
  pub ends : refusal told ≡ none → EndFound o

-- a case is added with some upper end
pub record DoesWith (s : Sheet) (o : (upper : ℕ) → Operation) (t : Sheet) (told : Told) : Type 0 where
  pub upper : ℕ
  pub does : Does s (o upper) t told
