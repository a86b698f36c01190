-- What was written of a case, from what its own tests found, and what is known of an accepted one. Assumes nothing.
use Rattle.std.specs.Prelude.{ℕ, ◌≤◌, ◌≡◌, refl, Bool, true, false, cond, List, ◌++◌, ltb, length, take, drop, Err, Ok}
use Rattle.std.proofs.Common.{sym, ap, subst, ◌∙◌, arith, ltb-false}
use Rattle.std.proofs.Math.Option.{Option, none, some}
use Rattle.std.proofs.lemmas.List.Edits.{sets}
use Rattle.std.proofs.Math.Seq.{take-append_seam}
use Rattle.byte_numbers.specs.laws.Storing.{at_start}
use Rattle.guidance.specs.declared.Case.{Case}
use Rattle.refusals.specs.declared.Fault.{Fault}
use Rattle.refusals.specs.Order.{Test, first_of}
use Rattle.limits.specs.Checked.{Checked}
use Rattle.limits.specs.Checks.{checked_by}
use Rattle.writable.specs.declared.Refusal.TheVariants.{Space}
use Rattle.writable.specs.Verdict.{Verdict}
use Rattle.writable.specs.Verdicts.{writable_verdict}
use Rattle.writable.specs.Writing.{with_text, Writes}
use Rattle.writable.specs.Steps.{placed, needed_for, Written}
use Rattle.writable.specs.laws.Verdicts.{space_last, accepted}

-- what is needed decides by the case alone
pub needed_alike : (o : Option Fault) (c : Case) (f g : Case → ℕ) (room : ℕ) → f c ≡ g c → placed (checked_by o c) f room ≡ placed (checked_by o c) g room
needed_alike none c f g room e = ap (λ (n : ℕ). cond (ltb room n) (Err Space) (Ok c)) e
needed_alike (some q) c f g room e = refl

-- what `place` gave for the bytes that are needed, u, is what the text asks for
module _ (text : Case → List ℕ) (s : Checked) {needed : ℕ} (enough : needed ≡ needed_for text s) where
  by_length : (room : ℕ) → placed s (λ (c : Case). needed) room ≡ placed s (λ (c : Case). length (text c)) room
  by_length room = go s enough
    where
      go : (t : Checked) → needed ≡ needed_for text t → placed t (λ (c : Case). needed) room ≡ placed t (λ (c : Case). length (text c)) room
      go (Ok c) e = ap (λ (n : ℕ). cond (ltb room n) (Err Space) (Ok c)) e
      go (Err f) e = refl

  pub has_room : (room : ℕ) {u : Verdict} {c : Case} → u ≡ placed s (λ (d : Case). needed) room → u ≡ Ok c → length (text c) ≤ room
  has_room room {u} {c} p e = go s (sym (by_length room) ∙ sym p ∙ e)
    where
      by : (d : Case) (b : Bool) → ltb room (length (text d)) ≡ b → cond b (Err Space) (Ok d) ≡ Ok c → length (text c) ≤ room
      by d true e h = let z : ◌≡◌ {A = ℕ} 0 1 = cc in absurd (omega arith)
      by d false e h = let same : d ≡ c = cc in subst (λ (k : Case). length (text k) ≤ room) same (ltb-false room (length (text d)) e)

      go : (t : Checked) → placed t (λ (d : Case). length (text d)) room ≡ Ok c → length (text c) ≤ room
      go (Ok d) h = by d (ltb room (length (text d))) refl h
      go (Err f) h = let z : ◌≡◌ {A = ℕ} 0 1 = cc in absurd (omega arith)

  pub told : (before : List ℕ) {u v : Verdict} {after : List ℕ}
      → u ≡ placed s (λ (c : Case). needed) (length before)
      → u ≡ v
      → after ≡ with_text text v before
      → Written text s before v after
  told before p e a = record { verdict = sym e ∙ p ∙ by_length (length before); area = a }

pub writes : {text : Case → List ℕ} (tests : List (Test Fault)) (c : Case) {s : Checked} {before after : List ℕ} {v : Verdict}
    → s ≡ checked_by (first_of tests) c
    → Written text s before v after
    → Writes text (writable_verdict text tests c (length before)) before v after
unfolding writable_verdict
writes {text} tests c {before = before} e w =
    let needed : Case → ℕ = λ d. length (text d) in
    record { verdict = w.verdict ∙ ap (λ (k : Checked). placed k needed (length before)) e ∙ space_last tests needed (length before) c; area = w.area }

-- an accepted case is the one that was given, passed its own tests, and stands at the start of the area
pub record Placed (text : Case → List ℕ) (tests : List (Test Fault)) (c d : Case) (after : List ℕ) : Type 0 where
  pub same : d ≡ c
  pub sound : first_of tests ≡ none
  pub start : take (length (text c)) after ≡ text c

pub placed_text : {text : Case → List ℕ} (tests : List (Test Fault)) (c : Case) {d : Case} {before after : List ℕ}
    → Writes text (writable_verdict text tests c (length before)) before (Ok d) after
    → Placed text tests c d after
unfolding writable_verdict
placed_text {text} tests c {d} {before} {after} w =
    let a = accepted tests (length (text c)) (length before) c (sym w.verdict) in
    let all : after ≡ text c ++ drop (length (text c)) before = w.area ∙ ap (λ (k : Case). sets before 0 (text k)) a.0 ∙ at_start before (text c) a.2 in
    record { same = a.0; sound = a.1; start = ap (take (length (text c))) all ∙ take-append_seam (text c) (drop (length (text c)) before) }
