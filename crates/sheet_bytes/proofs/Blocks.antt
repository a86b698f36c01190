-- The 32 bytes of one place, from what their writers promise. Assumes nothing.
use Rattle.std.specs.Prelude.{Some}
use Prim.Native.Nat.{ℕ}
use mathlib.Core.Path.{◌≡◌, refl, ap, ◌∙◌}
use mathlib.Core.List.{List, ◌++◌}
use native.Mathlib.Omega.{arith}
use lib.ListN.{length, drop, replicate, length-append}
use lib.Seq.{length-sets}
use borrow.Rule.Slice.PartMut.{mid_of, put_mid}
use Rattle.byte_numbers.specs.Numbers.{one, two, four}
use Rattle.byte_numbers.specs.Storing.{Stored}
use Rattle.byte_numbers.specs.laws.Storing.{and_then, stored_as, through_part, at_start}
use Rattle.fields.specs.Bytes.{first_bytes}
use Rattle.fields.specs.laws.Back.{first_length}
use Rattle.places.specs.declared.Held.{Held}
use Rattle.sheet_bytes.specs.Packing.{air_word, place_bytes}

-- what is filled with zeros
pub zeros : (l z : List ℕ) → length l ≡ 32 → z ≡ replicate (length l) 0 → z ≡ replicate 32 0
zeros l z size e = e ∙ ap (λ (n : ℕ). replicate n 0) size

-- 1, the first bytes of a frame, an end and an air pressure, over zeros
pub case_stored
    : (z a part b d : List ℕ) (h : Held) (k word : ℕ) →
    k ≡ 22 →
    z ≡ replicate 32 0 →
    Stored z 0 (one 1) a →
    Stored (mid_of 1 k a) 0 (first_bytes h.case) part →
    Stored (put_mid 1 k a part) 23 (four h.upper) b →
    word ≡ air_word h.case.air →
    Stored b 27 (two word) d →
    d ≡ place_bytes (Some h)
unfolding place_bytes one two four
case_stored z a part b d h k word width e p w q is r =
    let first = first_bytes h.case in
    let text = one 1 ++ first ++ four h.upper ++ two (air_word h.case.air) in
    let long : length a ≡ 32 = ap length p.all ∙ length-sets z 0 (one 1) ∙ ap length e in
    let there = through_part {L = a} {vs = first} {q = part} 1 k w (omega (arith, first_length h.case)) (omega (arith, long)) in
    let size : length (one 1 ++ first) ≡ 23 = omega (arith, length-append (one 1) first, first_length h.case) in
    let ended : length (one 1 ++ first ++ four h.upper) ≡ 27 = omega (arith, length-append (one 1 ++ first) (four h.upper), size) in
    let air = stored_as r (ap two is) in
    let all : Stored z 0 text d = and_then (and_then (and_then p there refl) q (omega (arith, size))) air (omega (arith, ended)) in
    let whole : length text ≡ 29 = omega (arith, length-append (one 1 ++ first ++ four h.upper) (two (air_word h.case.air)), ended) in
    all.all ∙ at_start z text (omega (arith, whole, ap length e))
    ∙ ap (λ (n : ℕ). text ++ drop n z) whole
    ∙ ap (λ (l : List ℕ). text ++ drop 29 l) e
