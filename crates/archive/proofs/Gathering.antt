-- One place, and one turn, of gathering the frames; and what was gathered. Assumes nothing.
use Rattle.std.specs.Prelude.{Option, None, Some}
use Prim.Native.Nat.{ℕ, ◌+◌, ◌*◌, ◌≤◌, ◌<◌}
use mathlib.Core.Path.{◌≡◌, refl, sym, ap, ◌∙◌}
use mathlib.Core.List.{List, ◌++◌}
use native.Mathlib.Numerals.{add-one}
use native.Mathlib.Omega.{arith}
use lib.ListN.{length, get_or, take, drop}
use lib.Seq.{length-sets, take_all, take_at}
use borrow.Rule.Slice.PartMut.{mid_of, put_mid}
use Rattle.byte_numbers.specs.Storing.{Stored}
use Rattle.byte_numbers.specs.laws.Storing.{and_then, stored_as, through_part, at_start}
use Rattle.fields.specs.Bytes.{long_frame}
use Rattle.fields.specs.laws.Back.{long_length}
use Rattle.places.specs.declared.Held.{Held}
use Rattle.places.specs.declared.Places.{Places}
use Rattle.places.specs.Holes.{closed}
use Rattle.places.specs.Places.{stands_for}
use Rattle.places.specs.laws.Closings.{closed_trim}
use Rattle.columns.specs.Stored.{Frames, stored}
use Rattle.archive.specs.Archived.{frame_at, frames_of, archived}
use Rattle.archive.specs.Steps.{cases, Put, Gathered}
use Rattle.archive.specs.laws.Frames.{frames_trim, frames_length, frames_next, cases_next}

pub put_hole : (n : ℕ) (before : List ℕ) → Put None n before n before
put_hole n before = record { count = omega arith; frames = record { all = refl } }

pub put_case : (h : Held) (n k : ℕ) (before part : List ℕ) → k ≡ 24 → 24 * n + 24 ≤ length before → Stored (mid_of (24 * n) k before) 0 (long_frame h.case) part
    → Put (Some h) n before (n + 1) (put_mid (24 * n) k before part)
put_case h n k before part width room w =
    record { count = refl; frames = through_part (24 * n) k w (omega (arith, long_length h.case)) (omega arith) }

-- the frames of the first i places are written
pub record Gathering (places : Places) (before frames : List ℕ) (n i : ℕ) : Type 0 where
  pub room : length before ≡ 1536
  pub same : length frames ≡ length before
  pub passed : i ≤ 64
  pub within : n ≤ i
  pub gathered : Gathered (take i (places.all)) before n frames

pub gather_first : (places : Places) (before : List ℕ) → length before ≡ 1536 → Gathering places before before 0 0
unfolding closed frames_of
gather_first places before f =
    record { room = f; same = refl; passed = omega arith; within = omega arith; gathered = record { count = refl; frames = record { all = refl } } }

cases_most : (x : Option Held) → cases x ≤ 1
cases_most None = omega arith
cases_most (Some h) = omega arith

pub gather_again
    : {places : Places} {before frames : List ℕ} {n i : ℕ} →
    Gathering places before frames n i →
    i < 64 →
    (x : Option Held) (r : ℕ) (after : List ℕ) →
    get_or places.all i None ≡ x →
    Put x n frames r after →
    Gathering places before after r (i + 1)
gather_again {places} {before} {frames} {n} {i} g l x r after read p =
    let xs = places.all in
    let inside : i < length xs = omega (arith, places.whole) in
    let passed = frames_of (take i xs) in
    let here : 24 * n ≡ 0 + length passed = omega (arith, frames_length (take i xs), g.gathered.count) in
    let all = and_then g.gathered.frames p.frames here in
    record {
      room = g.room;
      same = ap length all.all ∙ length-sets before 0 (passed ++ frame_at x);
      passed = omega arith;
      within = omega (arith, p.count, cases_most x, g.within);
      gathered =
          record {
            count = rw (add-one i) (omega (arith, p.count, g.gathered.count, cases_next xs i inside x read));
            frames = stored_as all (rw (add-one i) (sym (frames_next xs i inside x read)));
          };
    }

pub gather_last : {places : Places} {before frames : List ℕ} {n i : ℕ} → Gathering places before frames n i → 64 ≤ i → (n ≤ 64) × Gathered (stands_for places) before n frames
unfolding stands_for
gather_last {places} {i = i} g l =
    let xs = places.all in
    let all : take i xs ≡ xs = take_all i xs (omega (arith, places.whole)) in (
      omega (arith, g.within, g.passed),
      record {
        count = g.gathered.count ∙ ap (λ (t : List (Option Held)). length (closed t)) all ∙ ap length (sym (closed_trim xs));
        frames = stored_as g.gathered.frames (ap frames_of all ∙ sym (frames_trim xs));
      },
    )

-- what was gathered is the frames of the list
module _ (xs : List (Option Held)) {before : List ℕ} {n : ℕ} {frames : List ℕ} (room : length before ≡ 1536) (few : n ≤ 64) (g : Gathered xs before n frames) where
  front : take (24 * n) frames ≡ frames_of xs
  front =
      let size : length (frames_of xs) ≡ 24 * n = omega (arith, frames_length xs, g.count) in
      rw (g.frames.all, at_start before (frames_of xs) (omega arith)) (take_at (frames_of xs) (drop (length (frames_of xs)) before) (24 * n) size)

  pub gathered_frames : Frames n (take (24 * n) frames)
  gathered_frames = record { most = few; size = ap length front ∙ frames_length xs ∙ omega (arith, g.count) }

  pub gathered_archived : stored n (take (24 * n) frames) ≡ archived xs
  unfolding archived
  gathered_archived = rw (front, g.count)
