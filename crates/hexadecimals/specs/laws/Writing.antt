-- One turn of the loop that writes digits, and their count. Assumes nothing.
use Rattle.std.specs.Prelude.{ℕ, suc, ◌+◌, ◌*◌, ◌/◌, ◌%◌, ◌<◌, ◌≤◌, ◌≡◌, refl, List, [], ◌∷◌, ◌++◌, length, get_or, take, drop, set}
use Rattle.std.proofs.Common.{sym, ap, ◌∙◌, add-one, arith, take_all, length-take-le, take-suc}
use Rattle.std.proofs.lemmas.List.Edits.{sets}
use Rattle.std.proofs.Math.Seq.{length-sets}
use Rattle.byte_numbers.specs.laws.Storing.{sets_sets, at_start}
use Rattle.hexadecimals.specs.Written.{upper, digits_of}

pub digits_append : (a b : List ℕ) → digits_of (a ++ b) ≡ digits_of a ++ digits_of b
unfolding digits_of
digits_append [] b = refl
digits_append (x ∷ a) b = ap (λ (l : List ℕ). upper (x / 16) ∷ (upper (x % 16) ∷ l)) (digits_append a b)

pub length_digits : (a : List ℕ) → length (digits_of a) ≡ 2 * length a
unfolding digits_of
length_digits [] = refl
length_digits (x ∷ a) = let h = length_digits a in omega arith

-- the digits of the first i bytes are written
pub record Writing (bytes before area : List ℕ) (i : ℕ) : Type 0 where
  pub within : i ≤ length bytes
  pub room : 2 * length bytes ≤ length before
  pub same : length area ≡ length before
  pub text : area ≡ sets before 0 (digits_of (take i bytes))

pub begin : (bytes before : List ℕ) → 2 * length bytes ≤ length before → Writing bytes before before 0
unfolding digits_of
begin bytes before h = record { within = omega arith; room = h; same = refl; text = refl }

pub turn : {bytes before area : List ℕ} {i a b : ℕ}
    → Writing bytes before area i
    → i < length bytes
    → a ≡ upper (get_or bytes i 0 / 16)
    → b ≡ upper (get_or bytes i 0 % 16)
    → Writing bytes before (set (set area (2 * i) a) (2 * i + 1) b) (i + 1)
unfolding digits_of
turn {bytes} {before} {area} {i} {a} {b} s h ea eb =
    let us = digits_of (take i bytes) in
    let place : 2 * i ≡ 0 + length us = omega (arith, length_digits (take i bytes), length-take-le i bytes s.within) in
    let next : 2 * i + 1 ≡ suc (0 + length us) = omega arith in
    let written : set (set area (2 * i) a) (2 * i + 1) b ≡ sets before 0 (us ++ (a ∷ (b ∷ [])))
    = ap (λ (l : List ℕ). set (set l (2 * i) a) (2 * i + 1) b) s.text
    ∙ (λ t. set (set (sets before 0 us) (place t) a) (next t) b)
    ∙ sets_sets us before 0 (a ∷ (b ∷ [])) in
    let digits : us ++ (a ∷ (b ∷ [])) ≡ digits_of (take (i + 1) bytes)
    = ap (λ (x : ℕ). us ++ (x ∷ (b ∷ []))) ea ∙ ap (λ (x : ℕ). us ++ (upper (get_or bytes i 0 / 16) ∷ (x ∷ []))) eb ∙ sym (rw (add-one i, take-suc bytes i 0 h) (digits_append (take i bytes) (get_or bytes i 0 ∷ []))) in
    let all = written ∙ ap (λ (l : List ℕ). sets before 0 l) digits in
    record { within = omega arith; room = s.room; same = ap length all ∙ length-sets before 0 (digits_of (take (i + 1) bytes)); text = all }

pub ended : {bytes before area : List ℕ} {i : ℕ} → Writing bytes before area i → length bytes ≤ i → area ≡ sets before 0 (digits_of bytes)
ended {bytes} {before} {i = i} s h = s.text ∙ ap (λ (l : List ℕ). sets before 0 (digits_of l)) (take_all i bytes h)

-- the digits, then the area's other bytes
pub digits_first : (bytes area : List ℕ) → 2 * length bytes ≤ length area → sets area 0 (digits_of bytes) ≡ digits_of bytes ++ drop (length (digits_of bytes)) area
digits_first bytes area h = at_start area (digits_of bytes) (omega (arith, length_digits bytes))
