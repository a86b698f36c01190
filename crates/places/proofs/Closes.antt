-- One turn of closing the gaps. Assumes nothing.
use Prim.Native.Nat.{ℕ, ◌+◌, ◌≤◌, ◌<◌}
use Rattle.std.specs.Prelude.{Option, None, Some, is_some}
use mathlib.Core.Path.{◌≡◌, refl, sym, ap, ◌∙◌}
use mathlib.Core.Bool.{true, false, true≢false}
use mathlib.Core.List.{List, ◌∷◌, [], ◌++◌}
use native.Mathlib.Numerals.{add-one}
use native.Mathlib.Omega.{arith}
use lib.ListN.{length, length-append, length-set, get_or, set, take, replicate}
use lib.Seq.{take_all}
use Rattle.places.specs.declared.Held.{Held}
use Rattle.places.specs.Holes.{ahead, trim, closed}
use Rattle.places.specs.laws.Trims.{trim_set_next}
use Rattle.places.specs.laws.Closings.{closed_trim, closed_hole, closed_case}

-- of the first i places the n cases stand in front of the others
pub record Closing (from to : List (Option Held)) (n i : ℕ) : Type 0 where
  pub size : length from ≡ 64
  pub room : length to ≡ 64
  pub passed : i ≤ 64
  pub within : n ≤ i
  pub list : trim to ≡ closed (take i from)
  pub count : n ≡ length (trim to)

pub close_first : (from : List (Option Held)) → length from ≡ 64 → Closing from (replicate 64 None) 0 0
unfolding closed trim ahead
close_first from size = record { size = size; room = refl; passed = omega arith; within = omega arith; list = refl; count = refl }

module _ {from to : List (Option Held)} {n i : ℕ} (q : Closing from to n i) (l : i < 64) where
  more : i < length from
  more = omega (arith, q.size)

  hole : get_or from i None ≡ None → Closing from to n (i + 1)
  hole e =
      record {
        size = q.size;
        room = q.room;
        passed = omega arith;
        within = omega (arith, q.within);
        list = q.list ∙ sym (rw (add-one i) (closed_hole from i more e));
        count = q.count;
      }

  abbrev stored : List (Option Held)
  stored = set to n (get_or from i None)

  taken : (c : Held) → get_or from i None ≡ Some c → Closing from stored (n + 1) (i + 1)
  taken c e =
      let next : trim stored ≡ trim to ++ (Some c ∷ [])
      = rw (e, q.count) (trim_set_next to c (omega (arith, q.count, q.within, q.room))) in
      record {
        size = q.size;
        room = length-set to n (get_or from i None) ∙ q.room;
        passed = omega arith;
        within = omega (arith, q.within);
        list = next ∙ ap (λ (xs : List (Option Held)). xs ++ (Some c ∷ [])) q.list ∙ sym (rw (add-one i) (closed_case from i c more e));
        count = omega (arith, q.count, ap length next, length-append (trim to) (Some c ∷ []));
      }

  -- a place more
  pub close_hole : is_some (get_or from i None) ≡ false → Closing from to n (i + 1)
  close_hole e = go (get_or from i None) e refl
    where
      go : (x : Option Held) → is_some x ≡ false → get_or from i None ≡ x → Closing from to n (i + 1)
      go None e f = hole f
      go (Some c) e f = absurd (true≢false e)

  pub close_case : is_some (get_or from i None) ≡ true → Closing from stored (n + 1) (i + 1)
  close_case e = go (get_or from i None) e refl
    where
      go : (x : Option Held) → is_some x ≡ true → get_or from i None ≡ x → Closing from stored (n + 1) (i + 1)
      go None e f = absurd (true≢false (sym e))
      go (Some c) e f = taken c f

pub close_last : {from to : List (Option Held)} {n i : ℕ} → Closing from to n i → 64 ≤ i → trim to ≡ closed (trim from)
close_last {from} {to} {n} {i} q l =
    q.list ∙ ap closed (take_all i from (omega (arith, q.size))) ∙ sym (closed_trim from)
