-- A sequence of calls on lent bytes, each on the bytes that the one before it left, and what the caller is told (request 7).
use Rattle.std.specs.Prelude.{ℕ, zero, suc, List, [], ◌∷◌, replicate, Option, Result, Ok, Err}
use Rattle.std.proofs.lemmas.List.Edits.{sets}
use Rattle.fields.specs.Bytes.{frame_bytes}
use Rattle.places.specs.declared.Held.{Held}
use Rattle.guidance.specs.declared.Case.{Case}
use Rattle.sheet.specs.declared.Vacancy.{Vacancy}
use Rattle.sheet.specs.Refusals.{number, vacancy_number}
use Rattle.sheet.specs.Operations as sheet
use Rattle.sheet.specs.Operations.{Operation, Told, act, found}
use Rattle.lent_sheet.specs.Calls.{withdraw, close, Acts, Adds, Shows}

-- a refusal's number, a place, what was lent for a frame, or nothing more than 0
pub data Reply : Type 0 where
  refused : ℕ → Reply
  placed : ℕ → Reply
  shows : List ℕ → Reply
  done : Reply

-- 0 is returned where the rest is told
abbrev pub reply : (returned : ℕ) → Reply → Reply
reply zero x = x
reply (suc n) x = refused (suc n)

-- what is lent for a frame: 24 zeros, so that one of 22 bytes, behind which they are left, is told from one of 24
abbrev pub blank : List ℕ
blank = replicate 24 0

-- from s, these calls told this, and left t
pub data Run : (s : List ℕ) (operations : List Operation) (replies : List Reply) (t : List ℕ) → Type 0 where
  ends : {s : List ℕ} → Run s [] [] s
  adds
      : {s frame : List ℕ} {place n : ℕ} {u : List ℕ} {k : ℕ} {operations : List Operation} {replies : List Reply} {t : List ℕ} →
      (a : Adds frame s place n u k) →
      Run u operations replies t →
      Run s (sheet.add_frame frame a.upper ∷ operations) (reply n (placed k) ∷ replies) t
  withdraws
      : {s : List ℕ} {k n : ℕ} {u : List ℕ} {operations : List Operation} {replies : List Reply} {t : List ℕ} →
      Acts (withdraw k) s n u →
      Run u operations replies t →
      Run s (sheet.withdraw k ∷ operations) (reply n done ∷ replies) t
  closes
      : {s : List ℕ} {n : ℕ} {u : List ℕ} {operations : List Operation} {replies : List Reply} {t : List ℕ} →
      Acts close s n u →
      Run u operations replies t →
      Run s (sheet.close ∷ operations) (reply n done ∷ replies) t
  reads
      : {s : List ℕ} {k n : ℕ} {after : List ℕ} {operations : List Operation} {replies : List Reply} {t : List ℕ} →
      Shows k s blank n after →
      Run s operations replies t →
      Run s (sheet.case_at k ∷ operations) (reply n (shows after) ∷ replies) t

-- the same of a plain list with holes: what its answers tell a caller
abbrev pub telling : Told → Reply
telling (sheet.placing (Ok k)) = placed k
telling (sheet.placing (Err r)) = refused (number r)
telling (sheet.finding (Ok c)) = done
telling (sheet.finding (Err v)) = refused (vacancy_number v)
telling (sheet.counting n) = done

abbrev pub showing : Result Case Vacancy → Reply
showing (Ok c) = shows (sets blank 0 (frame_bytes c))
showing (Err v) = refused (vacancy_number v)

unfoldable pub reply_of : List (Option Held) → Operation → Reply
reply_of xs (sheet.add_frame frame u) = telling (act xs (sheet.add_frame frame u)).told
reply_of xs (sheet.add_line line u) = telling (act xs (sheet.add_line line u)).told
reply_of xs (sheet.withdraw k) = telling (act xs (sheet.withdraw k)).told
reply_of xs sheet.close = telling (act xs sheet.close).told
reply_of xs (sheet.case_at k) = showing (found xs k)

unfoldable pub replied : List (Option Held) → List Operation → List Reply
replied xs [] = []
replied xs (o ∷ operations) = reply_of xs o ∷ replied (act xs o).list operations
