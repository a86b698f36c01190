-- The bytes of places: how many, one place more, and read back. Assumes nothing.
use Rattle.std.specs.Prelude.{ℕ, zero, suc, ◌+◌, ◌*◌, ◌^◌, ◌<◌, ◌≡◌, refl, Bool, true, false, cond, List, [], ◌∷◌, ◌++◌, length, take, drop, eqb, Option, None, Some}
use Rattle.std.proofs.Common.{sym, ap, ◌∙◌, append_assoc, append-nil, arith, length-append, take_at, drop_at, drop-drop, eq-eqb, ne_eqb, eqb-true}
use Rattle.guidance.specs.AirPressure.{standard, in_air}
use Rattle.guidance.specs.Cases.{Fields}
use Rattle.byte_numbers.specs.Numbers.{one_at, four_at, one, two, four}
use Rattle.byte_numbers.specs.laws.Back.{two_back, four_back}
use Rattle.fields.specs.Bytes.{fields_of, settings, first_bytes}
use Rattle.fields.specs.laws.Back.{fields_in_air}
use Rattle.places.specs.declared.Held.{Held}
use Rattle.places.specs.Holes.{Each}
use Rattle.sheet_bytes.specs.Packing.{air_word, air_of_word, place_bytes, packed, case_in, held_in, unpacked}

-- what its bytes have room for: fields in their values, an end below 2^32
pub record Fits (h : Held) : Type 0 where
  pub fields : Fields h.case
  pub upper : h.upper < 2 ^ 32

pub length_place : (x : Option Held) → length (place_bytes x) ≡ 32
unfolding place_bytes first_bytes settings one two four
length_place None = refl
length_place (Some h) = refl

pub length_packed : (xs : List (Option Held)) → length (packed xs) ≡ 32 * length xs
unfolding packed
length_packed [] = refl
length_packed (x ∷ xs) = omega (arith, length-append (place_bytes x) (packed xs), length_place x, length_packed xs)

-- one place more
pub packed_next : (xs : List (Option Held)) (x : Option Held) → packed (xs ++ (x ∷ [])) ≡ packed xs ++ place_bytes x
unfolding packed
packed_next [] x = append-nil (place_bytes x)
packed_next (y ∷ xs) x = ap (λ (t : List ℕ). place_bytes y ++ t) (packed_next xs x) ∙ sym (append_assoc (place_bytes y) (packed xs) (place_bytes x))

pub unpacked_next : (n : ℕ) (s : List ℕ) → unpacked (suc n) s ≡ unpacked n s ++ (held_in (take 32 (drop (32 * n) s)) ∷ [])
unfolding unpacked
unpacked_next zero s = refl
unpacked_next (suc n) s =
    let e : 32 + 32 * n ≡ 32 * suc n = omega arith in
    ap (λ (t : List (Option Held)). held_in (take 32 s) ∷ t)
    (unpacked_next n (drop 32 s)
    ∙ ap (λ (l : List ℕ). unpacked n (drop 32 s) ++ (held_in (take 32 l) ∷ [])) (drop-drop (32 * n) 32 s ∙ ap (λ (k : ℕ). drop k s) e))

pub length_unpacked : (n : ℕ) (s : List ℕ) → length (unpacked n s) ≡ n
unfolding unpacked
length_unpacked zero s = refl
length_unpacked (suc n) s = ap suc (length_unpacked n (drop 32 s))

-- what a place's bytes are read as
pub hole_read : (place : List ℕ) → one_at place 0 ≡ 0 → None ≡ held_in place
unfolding held_in
hole_read place e = simp (eq-eqb (one_at place 0) 0 e)

pub case_read
    : (place : List ℕ) (h : Held) →
    (one_at place 0 ≡ 0 → ⊥) →
    h.case ≡ case_in place →
    h.upper ≡ four_at place 23 →
    Some h ≡ held_in place
unfolding held_in
case_read place h e f g = rw (ne_eqb (one_at place 0) 0 e) (λ k. Some (record { case = f k; upper = g k }))

-- what was packed is read back

word_back : (air : ℕ) → 0 < air → air_of_word (air_word air) ≡ air
unfolding air_of_word air_word
word_back air h = go (eqb air standard) refl
  where
    go : (b : Bool) → eqb air standard ≡ b → cond (eqb (cond b 0 air) 0) standard (cond b 0 air) ≡ air
    go true e = sym (eqb-true air standard e)
    go false e = simp (ne_eqb air 0 (λ z. omega arith))

word_lt : (air : ℕ) → air < 2 ^ 16 → air_word air < 2 ^ 16
unfolding air_word
word_lt air h = go (eqb air standard)
  where
    go : (b : Bool) → cond b 0 air < 2 ^ 16
    go true = omega arith
    go false = h

place_back : (x : Option Held) → (xs : List (Option Held)) → Each Fits (x ∷ xs) → (held_in (place_bytes x) ≡ x) × Each Fits xs
unfolding place_bytes first_bytes settings one two four Each
place_back None xs h = (sym (hole_read (place_bytes None) refl), h)
place_back (Some c) xs h =
    let f = h.0.fields in
    let air = c.case.air in
    let word = ap air_of_word (two_back (air_word air) (word_lt air (omega (arith, f.air_most)))) ∙ word_back air (omega (arith, f.air)) in
    let case : case_in (place_bytes (Some c)) ≡ c.case = ap (in_air (fields_of (first_bytes c.case))) word ∙ fields_in_air c.case f [] in
    (sym (case_read (place_bytes (Some c)) c (λ e. omega arith) (sym case) (sym (four_back c.upper h.0.upper))), h.1)

pub unpack_packed : (xs : List (Option Held)) (rest : List ℕ) → Each Fits xs → unpacked (length xs) (packed xs ++ rest) ≡ xs
unfolding unpacked packed
unpack_packed [] rest f = refl
unpack_packed (x ∷ xs) rest f =
    let back = place_back x xs f in
    let front : take 32 (place_bytes x ++ (packed xs ++ rest)) ≡ place_bytes x = take_at (place_bytes x) (packed xs ++ rest) 32 (length_place x) in
    let behind : drop 32 (place_bytes x ++ (packed xs ++ rest)) ≡ packed xs ++ rest = drop_at (place_bytes x) (packed xs ++ rest) 32 (length_place x) in
    rw (append_assoc, front, behind, back.0, unpack_packed xs rest back.1)
