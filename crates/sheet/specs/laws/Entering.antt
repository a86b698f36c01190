-- Adding from what tests 1 to 6 make of a case, and by tests 7 and 17. Assumes nothing.
use Rattle.std.specs.Prelude.{ℕ, ◌+◌, ◌-◌, ◌^◌, ◌<◌, ◌≡◌, true, false, List, [], ◌∷◌, length, set, Option, Some, Result, Ok, Err}
use Rattle.std.proofs.Math.Path.{refl, ap}
use Rattle.std.proofs.Common.{sym, subst, ◌∙◌, append_assoc, arith}
use Rattle.std.proofs.Math.Option as maybe
use Rattle.std.proofs.Math.Option.{none, some, none-ne-some}
use borrow.Author.Tests.{eq-eqb, ne_eqb}
use Rattle.guidance.specs.declared.Case.{Case}
use Rattle.guidance.specs.AirPressure.{air_of}
use Rattle.guidance.specs.Waves.{overpressure}
use Rattle.hexadecimals.specs.Digits.{bytes_of}
use Rattle.refusals.specs.declared.Fault.{Fault}
use Rattle.refusals.specs.Order.{Test, ◌when◌, first_of, held}
use Rattle.refusals.proofs.laws.Order.{or_else, first_held, neither_found, passed}
use Rattle.fields.specs.Bytes.{fields_of}
use Rattle.limits.specs.Checked.{Checked}
use Rattle.limits.specs.Checks.{checked_by}
use Rattle.frame.specs.Tests.{frame_tests, line_tests, beyond}
use Rattle.frame.specs.Checks.{frame_checked, line_checked}
use Rattle.layout.specs.declared.Interval.{Interval}
use Rattle.blast.specs.Promises.{Ended}
use Rattle.blast.proofs.Ending.{wave_ends}
use Rattle.places.specs.declared.Held.{Held}
use Rattle.places.specs.Places.{stands_for}
use Rattle.places.specs.laws.Contents.{stands_most, stored_next}
use Rattle.totals.specs.Keeping.{after_adding}
use Rattle.totals.specs.laws.Changes.{right_added}
use Rattle.sheet.specs.declared.Sheet.{Sheet}
use Rattle.sheet.specs.declared.Refusal.{Refusal}
use Rattle.sheet.specs.declared.Refusal.TheVariants.{Faulty, Beyond, Full}
use Rattle.sheet.specs.Tests.{full, own_tests, add_tests}
use Rattle.sheet.specs.Refusals.{number}
use Rattle.sheet.specs.Ends.{UpperEnd}
use Rattle.sheet.specs.Operations.{placing, adding, held_of, add_frame, add_line, refusal, act, list_of, Gives, DoesWith}
use Rattle.sheet.specs.Steps.{last, entered, EndOf, Enters}

-- tests 7 and 17 decide where none of 1 to 6 applies
first_added : (ts : List (Test Fault)) (c : Case) (xs : List (Option Held)) → first_of (add_tests ts c xs) ≡ or_else Faulty (first_of ts) (last c xs)
unfolding own_tests add_tests
first_added ts c xs =
    ap first_of (append_assoc (held Faulty ts) ((Beyond when beyond c) ∷ []) ((Full when full xs) ∷ []))
    ∙ first_held Faulty ts ((Beyond when beyond c) ∷ (Full when full xs) ∷ [])

-- no test applies: each passed
pub all_passed : (ts : List (Test Fault)) (c : Case) (xs : List (Option Held)) → first_of (add_tests ts c xs) ≡ none
    → (first_of ts ≡ none) × (beyond c ≡ false) × (full xs ≡ false)
all_passed ts c xs h =
    let n = neither_found Faulty (first_of ts) (last c xs) (sym (first_added ts c xs) ∙ h) in
    let p = passed _ n.1 in
    (n.0, p.0, p.1.0)

module _ (ts : List (Test Fault)) (c : Case) where
  entered_by : (xs : List (Option Held)) (u : ℕ) → adding (first_of (add_tests ts c xs)) xs (held_of c u) ≡ entered (checked_by (first_of ts) c) xs u
  unfolding adding
  entered_by xs u = ap (λ (o : maybe.Option Refusal). adding o xs (held_of c u)) (first_added ts c xs) ∙ go (first_of ts)
    where
      go : (o : maybe.Option Fault) → adding (or_else Faulty o (last c xs)) xs (held_of c u) ≡ entered (checked_by o c) xs u
      go none = refl
      go (some f) = refl

  -- where tests 1 to 6 made c of the case, what entering promises is promised of c
  module _ {s t : Sheet} {k : Checked} {a : Result ℕ Refusal} (e : k ≡ checked_by (first_of ts) c) (g : Enters s k t a) where
    entered_gives : Gives s (adding (first_of (add_tests ts c (list_of s))) (list_of s) (held_of c g.upper)) t (placing a)
    entered_gives = rw (entered_by (list_of s) g.upper) (subst (λ (j : Checked). Gives s (entered j (list_of s) g.upper) t (placing a)) e g.gives)

    entered_end : refusal (placing a) ≡ none → UpperEnd c g.upper
    entered_end z = go (first_of ts) (subst (λ (j : Checked). EndOf j g.upper) e (g.ends z))
      where
        go : (o : maybe.Option Fault) → EndOf (checked_by o c) g.upper → UpperEnd c g.upper
        go none f = f
        go (some x) f = absurd f

module _ {s t : Sheet} {k : Checked} {a : Result ℕ Refusal} where
  pub frame_adds : (frame : List ℕ) → k ≡ frame_checked frame → Enters s k t a → DoesWith s (add_frame frame) t (placing a)
  unfolding act frame_checked
  frame_adds frame e g =
      record {
        upper = g.upper;
        does = record { gives = entered_gives (frame_tests frame) (fields_of frame) e g; ends = entered_end (frame_tests frame) (fields_of frame) e g };
      }

  pub line_adds : (line : List ℕ) → k ≡ line_checked line → Enters s k t a → DoesWith s (add_line line) t (placing a)
  unfolding act line_checked
  line_adds line e g =
      let c = fields_of (bytes_of line) in
      record { upper = g.upper; does = record { gives = entered_gives (line_tests line) c e g; ends = entered_end (line_tests line) c e g } }

-- what is refused, whatever the end
pub enters_refused : (s : Sheet) (r : Refusal) (k : Checked) →
    entered k (list_of s) 0 ≡ record { list = list_of s; told = placing (Err r) }
    → Enters s k s (Err r)
enters_refused s r k f =
    record {
      upper = 0;
      gives = rw f (record { list = refl; answer = refl; same = λ n z. refl; totals = λ h. h });
      ends = λ z. absurd (none-ne-some (number r) (sym z));
    }

pub by_1_to_6 : (s : Sheet) (f : Fault) → Enters s (Err f) s (Err (Faulty f))
by_1_to_6 s f = enters_refused s (Faulty f) (Err f) refl

module _ (s : Sheet) (c : Case) where
  pub by_7 : beyond c ≡ true → Enters s (Ok c) s (Err Beyond)
  unfolding first_of adding
  by_7 h = enters_refused s Beyond (Ok c) (rw h)

  pub by_17 : (n : ℕ) → beyond c ≡ false → n ≡ length (list_of s) → n ≡ 64 → Enters s (Ok c) s (Err Full)
  unfolding first_of adding
  by_17 n h f g = enters_refused s Full (Ok c) (rw (h, eq-eqb (length (list_of s)) 64 (sym f ∙ g)))

-- no 17: a place is left
pub place_left : (s : Sheet) (n : ℕ) → n ≡ length (list_of s) → (n ≡ 64 → ⊥) → n < 64
unfolding list_of
place_left s n f g = omega (arith, stands_most s.places, f, g)

-- no test applies: the case is taken, with an end that was found
pub by_none : (s : Sheet) (c : Case) (t : Sheet) (k n : ℕ) (e : Interval ℕ) → beyond c ≡ false → n ≡ length (list_of s) → (n ≡ 64 → ⊥)
    → Ended (overpressure (air_of c) c) (2 ^ 24) e
    → Gives s (adding none (list_of s) (held_of c e.upper)) t (placing (Ok k))
    → Enters s (Ok c) t (Ok k)
unfolding first_of
by_none s c t k n e h f g found given =
    record {
      upper = e.upper;
      gives = rw (h, ne_eqb (length (list_of s)) 64 (λ i. g (f ∙ i))) given;
      ends = λ z. record { lower = e.lower; ends = wave_ends found };
    }

-- a case right after the last one, and the totals with it
pub puts : (s t : Sheet) (h : Held) (n : ℕ) → n ≡ length (list_of s) → n < 64
    → t.places.all ≡ set s.places.all (n + 1 - 1) (Some h)
    → t.totals ≡ after_adding s.totals t.places (n + 1) h
    → Gives s (adding none (list_of s) h) t (placing (Ok (n + 1)))
unfolding adding list_of
puts s t h n f l w r =
    let back : n + 1 - 1 ≡ n = omega arith in
    let list = stored_next s.places t.places n h f l (rw back at w) in
    record {
      list = list;
      answer = ap (λ (m : ℕ). placing (Ok (m + 1))) f;
      same = λ n z. absurd (none-ne-some n z);
      totals = λ right. r ∙ right_added s.totals t.places (stands_for s.places) right (n + 1) h list (ap (λ (m : ℕ). m + 1) f);
    }
