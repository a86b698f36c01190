-- A part of a list that goes to its end, as code lends it: what it holds, what lies after it, and how long it is. Assumes nothing.
use Rattle.std.specs.Prelude.{ℕ, ◌+◌, ◌-◌, ◌≤◌, ◌≡◌, List, [], ◌++◌, length, take, drop}
use Rattle.std.proofs.Common.{append-nil, le_of_eq, arith, length-drop, take_all}
use Rattle.std.proofs.Math.Seq.{drop-length}
use borrow.Rule.Slice.PartMut.{mid_of, post_of, put_mid}

-- it is what `drop` leaves, and nothing lies after it
pub part_to_end : (at : ℕ) (l : List ℕ) → mid_of at (length l - at) l ≡ drop at l
part_to_end at l = take_all (length l - at) (drop at l) (le_of_eq (length-drop at l))

none_after : (at : ℕ) (l : List ℕ) → post_of at (length l - at) l ≡ []
none_after at l = rw (← length-drop at l) (drop-length (drop at l))

-- the whole, once the part is back
pub put_to_end : (at : ℕ) (l part : List ℕ) → put_mid at (length l - at) l part ≡ take at l ++ part
put_to_end at l part = rw (none_after at l, append-nil part)

-- the room that a part has
pub room_from : (at : ℕ) (l : List ℕ) (n : ℕ) → n + at ≤ length l → n ≤ length (mid_of at (length l - at) l)
room_from at l n h = rw (part_to_end at l) (omega (arith, length-drop at l))
