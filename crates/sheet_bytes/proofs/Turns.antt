-- One turn of packing a sheet. Assumes nothing.
use Prim.Native.Nat.{ℕ, ◌+◌, ◌*◌, ◌≤◌, ◌<◌}
use mathlib.Core.Path.{◌≡◌, refl, sym, ap, ◌∙◌}
use mathlib.Core.List.{List, ◌++◌}
use native.Mathlib.Numerals.{add-one}
use native.Mathlib.Omega.{arith}
use lib.ListN.{length, get_or, take}
use lib.Seq.{sets, length-sets, take_all, take-suc, length-take-le}
use borrow.Rule.Slice.PartMut.{put_mid}
use Rattle.std.specs.Prelude.{Option, None}
use Rattle.byte_numbers.specs.Storing.{Stored}
use Rattle.byte_numbers.specs.laws.Storing.{and_then, whole_part}
use Rattle.places.specs.declared.Held.{Held}
use Rattle.places.specs.declared.Places.{Places}
use Rattle.places.specs.Places.{stands_for}
use Rattle.sheet_bytes.specs.Packing.{place_bytes, packed, sheet_bytes}
use Rattle.sheet_bytes.specs.laws.Lent.{contents_pad}
use Rattle.sheet_bytes.specs.laws.Places.{length_place, length_packed, packed_next}

-- the first i places are written
pub record Packing (places : Places) (before s : List ℕ) (i : ℕ) : Type 0 where
  pub room : 2048 ≤ length before
  pub passed : i ≤ 64
  pub same : length s ≡ length before
  pub text : s ≡ sets before 0 (packed (take i places.all))

pub pack_first : (places : Places) (before : List ℕ) → 2048 ≤ length before → Packing places before before 0
unfolding packed
pack_first places before room = record { room = room; passed = omega arith; same = refl; text = refl }

module _ {places : Places} {before s : List ℕ} {i : ℕ} (p : Packing places before s i) (l : i < 64) where
  inside : i < length places.all
  inside = omega (arith, places.whole)

  pub pack_again : (k : ℕ) (part : List ℕ) → k ≡ 32 → part ≡ place_bytes (get_or places.all i None) → Packing places before (put_mid (32 * i) k s part) (i + 1)
  pack_again k part width e =
      let x = get_or places.all i None in
      let text = packed (take i places.all) in
      let here : length text ≡ 32 * i = omega (arith, length_packed (take i places.all), length-take-le i places.all (omega (arith, inside))) in
      let enough : 32 * i + k ≤ length s = omega (arith, p.same, p.room) in
      let there = whole_part (32 * i) k e (length_place x ∙ sym width) enough in
      let stored : Stored before 0 (text ++ place_bytes x) (put_mid (32 * i) k s part) = and_then {us = text} (record { all = p.text }) there (omega (arith, here)) in
      let next : text ++ place_bytes x ≡ packed (take (i + 1) places.all)
      = rw (add-one i, take-suc places.all i None inside) (sym (packed_next (take i places.all) x)) in
      record {
        room = p.room;
        passed = omega arith;
        same = ap length stored.all ∙ length-sets before 0 (text ++ place_bytes x);
        text = stored.all ∙ ap (sets before 0) next;
      }

pub pack_last : {places : Places} {before s : List ℕ} {i : ℕ} → Packing places before s i → 64 ≤ i → s ≡ sets before 0 (sheet_bytes (stands_for places))
pack_last {places} {before} {i = i} p l =
    let all = take_all i places.all (omega (arith, places.whole)) in
    p.text ∙ ap (λ (xs : List (Option Held)). sets before 0 (packed xs)) (all ∙ contents_pad places)
