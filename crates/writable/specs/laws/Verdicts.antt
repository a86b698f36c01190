-- Test 8 stands behind a case's own tests, and what is known of an accepted case. Assumes nothing.
use Rattle.std.specs.Prelude.{ℕ, ◌≤◌, ◌≡◌, refl, Bool, true, false, cond, List, [], ◌∷◌, Err, Ok}
use Rattle.std.proofs.Common.{sym, ◌∙◌, arith}
use Rattle.std.proofs.Math.Path.{ap}
use Rattle.std.proofs.Math.Option.{Option, none, some}
use Rattle.std.proofs.Math.Dec.{ltb}
use borrow.Author.Tests.{le-ltb, ltb-false}
use Rattle.guidance.specs.declared.Case.{Case}
use Rattle.refusals.specs.declared.Fault.{Fault}
use Rattle.refusals.specs.Order.{Test, ◌when◌, first_of}
use Rattle.refusals.proofs.laws.Order.{or_else, first_held, neither_found, none_first, applies, absent}
use Rattle.limits.specs.Checks.{checked_by}
use Rattle.writable.specs.declared.Refusal.{Refusal}
use Rattle.writable.specs.declared.Refusal.TheVariants.{Faulty, Space}
use Rattle.writable.specs.Refusals.{number}
use Rattle.writable.specs.Verdicts.{writable_tests, verdict_by}
use Rattle.writable.specs.Steps.{placed}

module _ (tests : List (Test Fault)) (needed room : ℕ) where
  split : first_of (writable_tests tests needed room) ≡ or_else Faulty (first_of tests) (first_of ((Space when ltb room needed) ∷ []))
  unfolding writable_tests
  split = first_held Faulty tests ((Space when ltb room needed) ∷ [])

  -- an accepted case is the one that was given, passed its own tests, and has room
  pub accepted : (d : Case) {c : Case} → verdict_by (first_of (writable_tests tests needed room)) d ≡ Ok c → (c ≡ d) × (first_of tests ≡ none) × (needed ≤ room)
  accepted d {c} h =
      let a = by (first_of (writable_tests tests needed room)) h in
      let n = neither_found Faulty (first_of tests) (first_of ((Space when ltb room needed) ∷ [])) (sym split ∙ a.0) in
      (a.1, n.0, ltb-false room needed (none_first Space (ltb room needed) [] n.1).0)
    where
      by : (o : Option Refusal) → verdict_by o d ≡ Ok c → (o ≡ none) × (c ≡ d)
      by none e = (refl, cc)
      by (some r) e = let z : ◌≡◌ {A = ℕ} 0 1 = cc in absurd (omega arith)

  -- and such a case is accepted
  pub accepts : (c : Case) → first_of tests ≡ none → needed ≤ room → verdict_by (first_of (writable_tests tests needed room)) c ≡ Ok c
  unfolding first_of
  accepts c p h =
      let first : first_of (writable_tests tests needed room) ≡ none = split ∙ simp (p, le-ltb room needed h) in
      ap (λ (o : Option Refusal). verdict_by o c) first

-- what its own tests found stands, and 8 is behind them
pub space_last : (tests : List (Test Fault)) (needed : Case → ℕ) (room : ℕ) (c : Case)
    → placed (checked_by (first_of tests) c) needed room ≡ verdict_by (first_of (writable_tests tests (needed c) room)) c
unfolding first_of
space_last tests needed room c = go (first_of tests) ∙ sym (ap (λ (o : Option Refusal). verdict_by o c) (split tests (needed c) room))
  where
    either : (b : Bool) → cond b (Err Space) (Ok c) ≡ verdict_by (cond b (some Space) none) c
    either true = refl
    either false = refl

    go : (o : Option Fault) → placed (checked_by o c) needed room ≡ verdict_by (or_else Faulty o (cond (ltb room (needed c)) (some Space) none)) c
    go none = either (ltb room (needed c))
    go (some f) = refl

-- a refusal is given only where its test applies
pub not_refused : (r : Refusal) (ts : List (Test Refusal)) (d : Case) → applies number (number r) ts ≡ false → verdict_by (first_of ts) d ≡ Err r → ⊥
not_refused r ts d a h = absent number r ts a (by (first_of ts) h)
  where
    by : (o : Option Refusal) → verdict_by o d ≡ Err r → o ≡ some r
    by none e = let z : ◌≡◌ {A = ℕ} 0 1 = cc in absurd (omega arith)
    by (some q) e = let s : q ≡ r = cc in ap {B = Option Refusal} some s
