-- From zero bytes, any sequence of calls does as on a plain list with holes, what is told included. Assumes nothing.
use Rattle.std.specs.Prelude.{ℕ, zero, suc, ◌+◌, ◌≤◌, ◌≡◌, refl, length, replicate, Option, None, Some}
use Rattle.std.proofs.Common.{sym, ◌∙◌, arith, length-append}
use Rattle.std.proofs.Math.Path.{ap, ap₂}
use mathlib.Core.List.{List, [], ◌∷◌, ◌++◌}
use Rattle.std.proofs.Math.Option as maybe
use Rattle.std.proofs.Math.Option.{none, some, none-ne-some}
use Rattle.std.proofs.Math.Seq.{length-sets}
use Rattle.refusals.specs.Order.{first_of}
use Rattle.refusals.proofs.laws.Numbers.{no_fault}
use Rattle.fields.specs.Bytes.{fields_of}
use Rattle.places.specs.declared.Held.{Held}
use Rattle.places.specs.Holes.{at, Each}
use Rattle.places.specs.laws.Kept.{each_weaker}
use Rattle.totals.specs.Totals.{totals_of}
use Rattle.sheet.specs.declared.Refusal.{Refusal}
use Rattle.sheet.specs.declared.Refusal.TheVariants.{Faulty, Beyond, Full}
use Rattle.sheet.specs.Refusals as refusals
use Rattle.sheet.specs.Operations.{Operation, finding, adding, found_in, found, held_of, without, refusal, act, EndFound}
use Rattle.sheet.specs.Runs.{after}
use Rattle.sheet.specs.laws.Sequences.{plain_act}
use Rattle.sheet.specs.laws.Rightly.{RightlyHeld, rightly_act}
use Rattle.sheet_bytes.specs.Packing.{sheet_bytes, size, lent}
use Rattle.sheet_bytes.specs.laws.Places.{Fits}
use Rattle.sheet_bytes.specs.laws.Lent.{lent_plain, lent_packed, lent_zeros}
use Rattle.lent_sheet.specs.Calls.{Change, add, withdraw, close, operation, tests, code, left, told, Acts, shown, Totalled}
use Rattle.lent_sheet.specs.Runs.{refused, placed, shows, done, Reply, reply, blank, Run, ends, adds, withdraws, closes, reads, telling, showing, reply_of, replied}
use Rattle.lent_sheet.specs.laws.Judged.{judged, show_judged, total_judged}

-- a refused operation leaves the list

refused_adding : (o : maybe.Option Refusal) (xs : List (Option Held)) (h : Held) (n : ℕ) → refusal (adding o xs h).told ≡ some n → (adding o xs h).list ≡ xs
unfolding adding
refused_adding none xs h n e = absurd (none-ne-some n e)
refused_adding (some r) xs h n e = refl

refused_without : (x : Option Held) (xs : List (Option Held)) (k n : ℕ) → refusal (finding (found_in x)) ≡ some n → without x xs k ≡ xs
refused_without None xs k n e = refl
refused_without (Some h) xs k n e = absurd (none-ne-some n e)

refused_same : (xs : List (Option Held)) (c : Change) (n : ℕ) → refusal (act xs (operation c)).told ≡ some n → (act xs (operation c)).list ≡ xs
unfolding act found
refused_same xs (add frame u) n e = refused_adding _ xs (held_of (fields_of frame) u) n e
refused_same xs (withdraw k) n e = refused_without (at xs k) xs k n e
refused_same xs close n e = absurd (none-ne-some n e)

-- enough bytes, and cases that passed tests 1 to 7, each with an end of its own
record Sound (s : List ℕ) : Type 0 where
  room : size ≤ length s
  cases : Each RightlyHeld (lent s)

fits : (h : Held) → RightlyHeld h → Fits h
fits h q = record { fields = q.accepted.fields; upper = q.end.ends.fits }

-- one change
record Changed (c : Change) (s : List ℕ) (n : ℕ) (u : List ℕ) : Type 0 where
  sound : Sound u
  list : lent u ≡ (act (lent s) (operation c)).list
  number : n ≡ code (refusal (act (lent s) (operation c)).told)

module _ (c : Change) (s : List ℕ) (n : ℕ) (u : List ℕ) (h : Sound s) (a : Acts c s n u) (end : first_of (tests c s) ≡ none → EndFound (operation c)) where
  abbrev xs : List (Option Held)
  xs = (act (lent s) (operation c)).list

  first : first_of (tests c s) ≡ refusal (act (lent s) (operation c)).told
  first = judged c s h.room

  rightly : Each RightlyHeld xs
  rightly = rightly_act (lent s) (operation c) (λ e. end (first ∙ e)) h.cases

  by_answer : (f : maybe.Option ℕ) → refusal (act (lent s) (operation c)).told ≡ f → u ≡ left f s xs → (lent u ≡ xs) × (size ≤ length u)
  by_answer none e w = (
    ap lent w ∙ lent_packed xs s h.room (plain_act (lent s) (operation c) (lent_plain s h.room)) (each_weaker fits xs rightly),
    omega (arith, ap length w, length-sets s 0 (sheet_bytes xs), h.room),
  )
  by_answer (some m) e w = (ap lent w ∙ sym (refused_same (lent s) c m e), omega (arith, ap length w, h.room))

  changed : Changed c s n u
  changed =
      let after = by_answer (refusal (act (lent s) (operation c)).told) refl (a.bytes ∙ ap (λ (f : maybe.Option ℕ). left f s xs) first) in
      record {
        sound = record { room = after.1; cases = rw after.0 rightly };
        list = after.0;
        number = a.returned ∙ ap code first;
      }

-- what each call tells

refused_reply : (n m : ℕ) (x : Reply) → n ≡ m → (m ≡ 0 → ⊥) → reply n x ≡ refused m
refused_reply zero m x e h = absurd (h (sym e))
refused_reply (suc n) m x e h = ap refused e

never_0 : (r : Refusal) → refusals.number r ≡ 0 → ⊥
never_0 (Faulty f) = no_fault 0 refl f
never_0 Beyond = λ e. omega arith
never_0 Full = λ e. omega arith

add_reply : (o : maybe.Option Refusal) (xs : List (Option Held)) (h : Held) (n place k : ℕ) → n ≡ code (refusal (adding o xs h).told)
    → k ≡ told (refusal (adding o xs h).told) place (length xs + 1)
    → reply n (placed k) ≡ telling (adding o xs h).told
unfolding adding
add_reply none xs h n place k e f = rw (e, f) refl
add_reply (some r) xs h n place k e f = refused_reply n (refusals.number r) (placed k) e (never_0 r)

withdraw_reply : (x : Option Held) (n : ℕ) → n ≡ code (refusal (finding (found_in x))) → reply n done ≡ telling (finding (found_in x))
withdraw_reply None n e = rw e refl
withdraw_reply (Some c) n e = rw e refl

show_reply : (x : Option Held) (n : ℕ) (after : List ℕ) → n ≡ code (refusal (finding (found_in x))) → after ≡ shown (refusal (finding (found_in x))) blank x
    → reply n (shows after) ≡ showing (found_in x)
show_reply None n after e w = rw e refl
show_reply (Some c) n after e w = rw e (ap shows w)

-- any sequence
record Follows (s : List ℕ) (operations : List Operation) (replies : List Reply) (t : List ℕ) : Type 0 where
  sound : Sound t
  list : lent t ≡ after (lent s) operations
  told : replies ≡ replied (lent s) operations

module _ {s u : List ℕ} {o : Operation} {operations : List Operation} {x : Reply} {replies : List Reply} {t : List ℕ} where
  goes_on : lent u ≡ (act (lent s) o).list → x ≡ reply_of (lent s) o → Follows u operations replies t → Follows s (o ∷ operations) (x ∷ replies) t
  unfolding after replied
  goes_on list answer more =
      record {
        sound = more.sound;
        list = more.list ∙ ap (λ (xs : List (Option Held)). after xs operations) list;
        told = ap₂ (λ (y : Reply) (ys : List Reply). y ∷ ys) answer (more.told ∙ ap (λ (xs : List (Option Held)). replied xs operations) list);
      }

run_sound : {s : List ℕ} {operations : List Operation} {replies : List Reply} {t : List ℕ} → Run s operations replies t → Sound s → Follows s operations replies t
unfolding after replied reply_of act found
run_sound ends h = record { sound = h; list = refl; told = refl }
run_sound (adds {s = s} {frame = frame} {place = place} {n = n} {u = u} {k = k} a run) h =
    let d = changed (add frame a.upper) s n u h a.acts a.end in
    let place_is = a.place_is ∙ ap (λ (f : maybe.Option ℕ). told f place (length (lent s) + 1)) (judged (add frame a.upper) s h.room) in
    goes_on d.list (add_reply _ (lent s) (held_of (fields_of frame) a.upper) n place k d.number place_is) (run_sound run d.sound)
run_sound (withdraws {s = s} {k = k} {n = n} {u = u} a run) h =
    let d = changed (withdraw k) s n u h a (λ z. tt) in
    goes_on d.list (withdraw_reply (at (lent s) k) n d.number) (run_sound run d.sound)
run_sound (closes {s = s} {n = n} {u = u} a run) h =
    let d = changed close s n u h a (λ z. tt) in
    goes_on d.list (rw d.number refl) (run_sound run d.sound)
run_sound (reads {s = s} {k = k} {n = n} {after = read} a run) h =
    let first = show_judged k s (length blank) h.room (omega arith) in
    goes_on refl
    (show_reply (at (lent s) k) n read (a.returned ∙ ap code first) (a.area ∙ ap (λ (f : maybe.Option ℕ). shown f blank (at (lent s) k)) first))
    (run_sound run h)

-- from the empty sheet, whatever stands behind its bytes

zeros_sound : (rest : List ℕ) → Sound (replicate size 0 ++ rest)
unfolding Each
zeros_sound rest = record { room = omega (arith, length-append (replicate size 0) rest); cases = rw (lent_zeros rest) tt }

module _ {rest : List ℕ} {operations : List Operation} {replies : List Reply} {t : List ℕ} (run : Run (replicate size 0 ++ rest) operations replies t) where
  all : Follows (replicate size 0 ++ rest) operations replies t
  all = run_sound run (zeros_sound rest)

  pub from_zeros : (lent t ≡ after [] operations) × (replies ≡ replied [] operations)
  from_zeros =
      let none_yet = lent_zeros rest in (
        all.list ∙ ap (λ (xs : List (Option Held)). after xs operations) none_yet,
        all.told ∙ ap (λ (xs : List (Option Held)). replied xs operations) none_yet,
      )

  pub room_from_zeros : size ≤ length t
  room_from_zeros = all.sound.room

  -- each case that is kept has an upper end of its exact ΔP beside it (request 8)
  pub rightly_from_zeros : Each RightlyHeld (lent t)
  rightly_from_zeros = all.sound.cases

  -- the totals of the bytes are those of the plain list after the same operations (request 8)
  pub totals_from_zeros : {count greatest place n count_after greatest_after place_after : ℕ} → Totalled t count greatest place n count_after greatest_after place_after
      → (n ≡ 0) × (count_after ≡ (totals_of (after [] operations)).cases) × (greatest_after ≡ (totals_of (after [] operations)).greatest)
      × (place_after ≡ (totals_of (after [] operations)).place)
  totals_from_zeros shown =
      let list = from_zeros.0 in
      let enough = total_judged t all.sound.room in (
        shown.returned ∙ ap code enough,
        rw (enough, list) at shown.count_is,
        rw (enough, list) at shown.greatest_is,
        rw (enough, list) at shown.place_is,
      )
