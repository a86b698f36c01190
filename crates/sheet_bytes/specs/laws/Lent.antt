-- The list that lent bytes stand for: zeros are the empty sheet, and what was packed is read back. Assumes nothing.
use Rattle.std.specs.Prelude.{ℕ, zero, suc, ◌+◌, ◌*◌, ◌≤◌, ◌<◌, ◌≡◌, refl, List, [], ◌∷◌, ◌++◌, length, replicate, Option, None, Some}
use Rattle.std.proofs.Common.{sym, ap, ◌∙◌, arith, not-suc-le-zero, length-append, lt-ltb, le-ltb}
use Rattle.std.proofs.lemmas.List.{replicate-append-replicate}
use Rattle.std.proofs.lemmas.List.Edits.{sets}
use Rattle.byte_numbers.specs.laws.Storing.{at_start}
use Rattle.places.specs.declared.Held.{Held}
use Rattle.places.specs.declared.Places.{Places}
use Rattle.places.specs.Holes.{ahead, trim, Plain, Each}
use Rattle.places.specs.Places.{stands_for}
use Rattle.places.specs.laws.Trims.{ahead_same, trim_trim, length_trim}
use Rattle.sheet_bytes.specs.Packing.{place_bytes, packed, pad, sheet_bytes, unpacked, size, lent}
use Rattle.sheet_bytes.specs.laws.Places.{Fits, length_packed, length_unpacked, unpack_packed}

pub short_lent : (s : List ℕ) → length s < size → lent s ≡ []
unfolding lent
short_lent s h = simp (lt-ltb (length s) size h)

pub enough_lent : (s : List ℕ) → size ≤ length s → lent s ≡ trim (unpacked 64 s)
unfolding lent
enough_lent s h = simp (le-ltb (length s) size h)

-- filled up with holes

pad_trim : (xs : List (Option Held)) → pad (length xs) (trim xs) ≡ xs
unfolding pad trim
pad_trim [] = refl
pad_trim (x ∷ xs) = ahead_same (pad (suc (length xs))) refl x (trim xs) ∙ ap (λ (t : List (Option Held)). x ∷ t) (pad_trim xs)

trim_holes : (n : ℕ) → trim (pad n []) ≡ []
unfolding pad trim ahead
trim_holes zero = refl
trim_holes (suc n) = ap (ahead None) (trim_holes n)

trim_pad : (n : ℕ) (xs : List (Option Held)) → length xs ≤ n → trim (pad n xs) ≡ trim xs
unfolding pad trim
trim_pad n [] h = trim_holes n
trim_pad zero (x ∷ xs) h = absurd (not-suc-le-zero h)
trim_pad (suc n) (x ∷ xs) h = ap (ahead x) (trim_pad n xs (omega arith))

length_pad : (n : ℕ) (xs : List (Option Held)) → length (pad n xs) ≡ n
unfolding pad
length_pad zero xs = refl
length_pad (suc n) [] = ap suc (length_pad n [])
length_pad (suc n) (x ∷ xs) = ap suc (length_pad n xs)

each_pad : (P : Held → Type 0) (n : ℕ) (xs : List (Option Held)) → Each P xs → Each P (pad n xs)
unfolding pad Each
each_pad P zero xs h = tt
each_pad P (suc n) [] h = each_pad P n [] h
each_pad P (suc n) (None ∷ xs) h = each_pad P n xs h
each_pad P (suc n) (Some c ∷ xs) h = (h.0, each_pad P n xs h.1)

-- the places, from the list that they stand for
pub contents_pad : (s : Places) → s.all ≡ pad 64 (stands_for s)
unfolding stands_for
contents_pad s = sym (ap (λ (n : ℕ). pad n (trim s.all)) (sym s.whole) ∙ pad_trim s.all)

length_sheet : (xs : List (Option Held)) → length (sheet_bytes xs) ≡ size
length_sheet xs = omega (arith, length_packed (pad 64 xs), length_pad 64 xs)

pub lent_plain : (s : List ℕ) → size ≤ length s → Plain (lent s)
lent_plain s h =
    rw (enough_lent s h)
    (record { most = omega (arith, length_trim (unpacked 64 s), length_unpacked 64 s); trimmed = trim_trim (unpacked 64 s) })

read_again : (xs : List (Option Held)) (rest : List ℕ) → length xs ≤ 64 → Each Fits xs → lent (sheet_bytes xs ++ rest) ≡ trim xs
read_again xs rest h f =
    enough_lent (sheet_bytes xs ++ rest) (omega (arith, length-append (sheet_bytes xs) rest, length_sheet xs))
    ∙ ap trim (ap (λ (n : ℕ). unpacked n (sheet_bytes xs ++ rest)) (sym (length_pad 64 xs)) ∙ unpack_packed (pad 64 xs) rest (each_pad Fits 64 xs f))
    ∙ trim_pad 64 xs h

-- what was packed is read back
pub lent_packed : (xs : List (Option Held)) (before : List ℕ) → size ≤ length before → Plain xs → Each Fits xs → lent (sets before 0 (sheet_bytes xs)) ≡ xs
lent_packed xs before room p f =
    ap lent (at_start before (sheet_bytes xs) (omega (arith, length_sheet xs))) ∙ read_again xs _ p.most f ∙ p.trimmed

-- n holes are 32·n zeros
packed_holes : (n : ℕ) → packed (pad n []) ≡ replicate (32 * n) 0
unfolding packed pad place_bytes
packed_holes zero = refl
packed_holes (suc n) =
    let e : 32 + 32 * n ≡ 32 * suc n = omega arith in
    ap (λ (t : List ℕ). replicate 32 0 ++ t) (packed_holes n) ∙ replicate-append-replicate 32 (32 * n) 0 ∙ ap (λ (k : ℕ). replicate k 0) e

-- all zero bytes are the empty sheet
pub lent_zeros : (rest : List ℕ) → lent (replicate size 0 ++ rest) ≡ []
unfolding Each trim
lent_zeros rest = ap (λ (l : List ℕ). lent (l ++ rest)) (sym (packed_holes 64)) ∙ read_again [] rest (omega arith) tt
