-- A call on lent bytes, from what the sheet that they stand for does. Assumes nothing.
use Prim.Native.Nat.{ℕ, ◌+◌, ◌≤◌, ◌<◌}
use mathlib.Core.Path.{◌≡◌, refl, sym, ap, ◌∙◌}
use mathlib.Core.Bool.{true}
use mathlib.Core.List.{List, [], ◌∷◌, ◌++◌}
use mathlib.Core.Option as maybe
use mathlib.Core.Option.{none, some, none-ne-some}
use Rattle.std.specs.Prelude.{Option, None, Some, Result, Ok, Err}
use native.Mathlib.Omega.{arith}
use lib.ListN.{length}
use lib.Seq.{sets}
use borrow.Author.Tests.{lt-ltb, le-ltb}
use Rattle.guidance.specs.declared.Case.{Case}
use Rattle.places.specs.declared.Held.{Held}
use Rattle.refusals.specs.declared.Fault.{Fault}
use Rattle.refusals.specs.Order.{Test, ◌when◌, first_of, held}
use Rattle.refusals.proofs.laws.Order.{or_else, first_held, first_append}
use Rattle.fields.specs.Bytes.{fields_of, frame_bytes}
use Rattle.frame.specs.Tests.{frame_tests}
use Rattle.places.specs.Holes.{at}
use Rattle.places.specs.declared.Places.{Places}
use Rattle.places.specs.Places.{stands_for}
use Rattle.totals.specs.Totals.{totals_of}
use Rattle.totals.specs.declared.Totals.{Totals}
use Rattle.sheet.specs.declared.Sheet.{Sheet}
use Rattle.sheet.specs.declared.Refusal.{Refusal}
use Rattle.sheet.specs.declared.Refusal.TheVariants.{Full}
use Rattle.sheet.specs.declared.Vacancy.{Vacancy}
use Rattle.sheet.specs.Refusals.{number, vacancy_number}
use Rattle.sheet.specs.Tests as sheets
use Rattle.sheet.specs.Operations.{Told, add_frame, placing, adding, found_in, found, held_of, refusal, act, list_of, Does, DoesWith}
use Rattle.sheet_bytes.specs.Packing.{sheet_bytes, size, short, lent}
use Rattle.lent_sheet.specs.Calls.{space, Change, add, withdraw, close, operation, tests, show_tests, code, left, Acts, told, Adds, shown, Shows, total_tests, Totalled}
use Rattle.sheet_bytes.specs.laws.Lent.{short_lent}
use Rattle.lent_sheet.specs.laws.Judged.{judged, total_judged}

-- by what the first test says

refused_by : (o : Change) (s : List ℕ) (n : ℕ) → first_of (tests o s) ≡ some n → Acts o s n s
refused_by o s n e = record { returned = sym (ap code e); bytes = sym (ap (λ (f : maybe.Option ℕ). left f s (act (lent s) (operation o)).list) e) }

accepted_by : (o : Change) (s after : List ℕ) → first_of (tests o s) ≡ none → after ≡ sets s 0 (sheet_bytes (act (lent s) (operation o)).list) → Acts o s 0 after
accepted_by o s after e w = record { returned = sym (ap code e); bytes = w ∙ sym (ap (λ (f : maybe.Option ℕ). left f s (act (lent s) (operation o)).list) e) }

-- too few bytes
pub short_withdraw : (k : ℕ) (s : List ℕ) → length s < size → Acts (withdraw k) s space s
unfolding tests first_of
short_withdraw k s h = refused_by (withdraw k) s space (simp (lt-ltb (length s) size h))

pub short_close : (s : List ℕ) → length s < size → Acts close s space s
unfolding tests first_of
short_close s h = refused_by close s space (simp (lt-ltb (length s) size h))

-- enough bytes: b is what they stand for, t is handed back with x
module _ (o : Change) (s : List ℕ) (b t : Sheet) (x : Told) (room : size ≤ length s) (same : list_of b ≡ lent s) (does : Does b (operation o) t x) where
  first : first_of (tests o s) ≡ refusal x
  first = judged o s room ∙ ap refusal (sym (does.gives.answer ∙ ap (λ (xs : List (Option Held)). (act xs (operation o)).told) same))

  pub refused_call : (n : ℕ) → refusal x ≡ some n → Acts o s n s
  refused_call n e = refused_by o s n (first ∙ e)

  pub accepted_call : refusal x ≡ none → (after : List ℕ) → after ≡ sets s 0 (sheet_bytes (stands_for t.places)) → Acts o s 0 after
  unfolding list_of
  accepted_call e after w =
      let list = does.gives.list ∙ ap (λ (xs : List (Option Held)). (act xs (operation o)).list) same in
      accepted_by o s after (first ∙ e) (w ∙ ap (λ (xs : List (Option Held)). sets s 0 (sheet_bytes xs)) list)

-- adding where too few bytes are lent: what the empty sheet refuses, else 8
abbrev pub short_refusal : Result ℕ Refusal → maybe.Option ℕ
short_refusal (Ok k) = some space
short_refusal (Err r) = some (number r)

short_first : (own : maybe.Option Refusal) (h : Held) (p : Result ℕ Refusal) → placing p ≡ (adding (or_else (λ (r : Refusal). r) own none) [] h).told → or_else number own (some space) ≡ short_refusal p
unfolding adding
short_first none h p e = let q : p ≡ Ok (0 + 1) = cc in sym (ap short_refusal q)
short_first (some r) h p e = let q : p ≡ Err r = cc in sym (ap short_refusal q)

short_judged : (ts : List (Test Fault)) (c : Case) (u : ℕ) (s : List ℕ) (p : Result ℕ Refusal) → length s < size
    → placing p ≡ (adding (first_of (sheets.add_tests ts c [])) [] (held_of c u)).told
    → first_of (held number (sheets.own_tests ts c) ++ (space when short s) ∷ (number Full when sheets.full (lent s)) ∷ []) ≡ short_refusal p
unfolding sheets.add_tests first_of
short_judged ts c u s p h e =
    let own = sheets.own_tests ts c in
    let split : first_of (sheets.add_tests ts c []) ≡ or_else (λ (r : Refusal). r) (first_of own) none = first_append own ((Full when sheets.full []) ∷ []) in
    rw (lt-ltb (length s) size h, first_held number own ((space when true) ∷ (number Full when sheets.full (lent s)) ∷ []))
    (short_first (first_of own) (held_of c u) p (e ∙ ap (λ (o : maybe.Option Refusal). (adding o [] (held_of c u)).told) split))

next_place : (o : maybe.Option Refusal) (xs : List (Option Held)) (h : Held) (k : ℕ) → placing (Ok k) ≡ (adding o xs h).told → k ≡ length xs + 1
unfolding adding
next_place none xs h k e = cc
next_place (some r) xs h k e = let z : ◌≡◌ {A = ℕ} 0 1 = cc in absurd (omega arith)

module _ (frame s : List ℕ) (place : ℕ) (b t : Sheet) (p : Result ℕ Refusal) (same : list_of b ≡ lent s) (adds : DoesWith b (add_frame frame) t (placing p)) where
  abbrev u : ℕ
  u = adds.upper

  abbrev call : Change
  call = add frame u

  answered : placing p ≡ (act (lent s) (add_frame frame u)).told
  answered = adds.does.gives.answer ∙ ap (λ (xs : List (Option Held)). (act xs (add_frame frame u)).told) same

  keeps : (n : ℕ) → first_of (tests call s) ≡ some n → Adds frame s place n s place
  keeps n e =
      record {
        upper = u;
        acts = refused_by call s n e;
        end = λ z. absurd (none-ne-some n (sym z ∙ e));
        place_is = sym (ap (λ (f : maybe.Option ℕ). told f place (length (lent s) + 1)) e);
      }

  too_few : length s < size → first_of (tests call s) ≡ short_refusal p
  unfolding tests act
  too_few h =
      let none_yet = short_lent s h in
      short_judged (frame_tests frame) (fields_of frame) u s p h
      (answered ∙ ap (λ (xs : List (Option Held)). (adding (first_of (sheets.add_tests (frame_tests frame) (fields_of frame) xs)) xs (held_of (fields_of frame) u)).told) none_yet)

  pub add_short : (n : ℕ) → short_refusal p ≡ some n → length s < size → Adds frame s place n s place
  add_short n e h = keeps n (too_few h ∙ e)

  pub add_refused : (r : Refusal) → p ≡ Err r → size ≤ length s → Adds frame s place (number r) s place
  add_refused r e h = keeps (number r) (first call s b t (placing p) h same adds.does ∙ ap (λ (q : Result ℕ Refusal). refusal (placing q)) e)

  pub add_accepted : (k : ℕ) → p ≡ Ok k → size ≤ length s → (after : List ℕ) → after ≡ sets s 0 (sheet_bytes (stands_for t.places))
      → Adds frame s place 0 after k
  unfolding act
  add_accepted k e h after w =
      let accepts = ap (λ (q : Result ℕ Refusal). refusal (placing q)) e in
      let next = next_place _ (lent s) (held_of (fields_of frame) u) k (ap (λ (q : Result ℕ Refusal). placing q) (sym e) ∙ answered) in
      record {
        upper = u;
        acts = accepted_call call s b t (placing p) h same adds.does accepts after w;
        end = λ z. adds.does.ends accepts;
        place_is = next ∙ sym (ap (λ (f : maybe.Option ℕ). told f place (length (lent s) + 1)) (first call s b t (placing p) h same adds.does ∙ accepts));
      }

-- reading a case

shows_by : (k : ℕ) (s area : List ℕ) (o : maybe.Option ℕ) (x : Option Held) (after : List ℕ)
    → first_of (show_tests k s (length area)) ≡ o → at (lent s) k ≡ x → after ≡ shown o area x → Shows k s area (code o) after
shows_by k s area o x after e f w = record { returned = sym (ap code e); area = rw (e, f) w }

found_none : (x : Option Held) (v : Vacancy) → found_in x ≡ Err v → x ≡ None
found_none None v e = refl
found_none (Some c) v e = let z : ◌≡◌ {A = ℕ} 0 1 = cc in absurd (omega arith)

found_some : (x : Option Held) (c : Case) → found_in x ≡ Ok c → (h : Held) × (x ≡ Some h) × (h.case ≡ c)
found_some None c e = let z : ◌≡◌ {A = ℕ} 0 1 = cc in absurd (omega arith)
found_some (Some d) c e = (d, refl, cc)

pub short_show : (k : ℕ) (s area : List ℕ) → length s < size → Shows k s area space area
unfolding show_tests first_of
short_show k s area h = shows_by k s area (some space) _ area (rw (lt-ltb (length s) size h) refl) refl refl

module _ (k : ℕ) (s area : List ℕ) (b : Sheet) (x : Result Case Vacancy) (room : size ≤ length s) (same : list_of b ≡ lent s) (is : x ≡ found (list_of b) k) where
  there_is : found_in (at (lent s) k) ≡ x
  unfolding found
  there_is = sym (is ∙ ap (λ (xs : List (Option Held)). found_in (at xs k)) same)

  pub vacant_show : (v : Vacancy) → x ≡ Err v → Shows k s area (vacancy_number v) area
  unfolding show_tests first_of
  vacant_show v e =
      let nothing = found_none _ v (there_is ∙ e) in
      shows_by k s area (some (vacancy_number v)) None area (rw (le-ltb (length s) size room, nothing) refl) nothing refl

  pub narrow_show : (c : Case) {n : ℕ} → x ≡ Ok c → n ≡ length (frame_bytes c) → length area < n → Shows k s area space area
  unfolding show_tests first_of
  narrow_show c e m h =
      let there = found_some (at (lent s) k) c (there_is ∙ e) in
      let case = there.1 in
      let few : length area < length (frame_bytes there.0.case) = rw there.2 (omega arith) in
      shows_by k s area (some space) _ area (rw (le-ltb (length s) size room, case, lt-ltb (length area) _ few) refl) case refl

  pub case_shown : (c : Case) → x ≡ Ok c → length (frame_bytes c) ≤ length area → (after : List ℕ) → after ≡ sets area 0 (frame_bytes c) → Shows k s area 0 after
  unfolding show_tests first_of
  case_shown c e h after w =
      let there = found_some (at (lent s) k) c (there_is ∙ e) in
      let case = there.1 in
      let enough : length (frame_bytes there.0.case) ≤ length area = rw there.2 h in
      shows_by k s area none (Some there.0) after (rw (le-ltb (length s) size room, case, le-ltb (length area) _ enough) refl) case
      (w ∙ ap (λ (d : Case). sets area 0 (frame_bytes d)) (sym there.2))

-- the totals

pub short_totals : (s : List ℕ) (count greatest place : ℕ) → length s < size → Totalled s count greatest place space count greatest place
unfolding first_of
short_totals s count greatest place h =
    let e : first_of (total_tests s) ≡ some space = rw (lt-ltb (length s) size h) refl in
    record { returned = rw e refl; count_is = rw e refl; greatest_is = rw e refl; place_is = rw e refl }

pub totals_shown : (s : List ℕ) (count greatest place : ℕ) (places : Places) (t : Totals) → size ≤ length s → stands_for places ≡ lent s → t ≡ totals_of (stands_for places)
    → Totalled s count greatest place 0 t.cases t.greatest t.place
totals_shown s count greatest place places t room same is =
    let e = total_judged s room in
    let right : t ≡ totals_of (lent s) = is ∙ ap totals_of same in
    record {
      returned = rw e refl;
      count_is = rw e (ap (λ (u : Totals). u.cases) right);
      greatest_is = rw e (ap (λ (u : Totals). u.greatest) right);
      place_is = rw e (ap (λ (u : Totals). u.place) right);
    }
