-- The bytes that a line spells, two characters at a time, with the worth of each character at hand. Assumes nothing.
use Rattle.std.specs.Prelude.{ℕ, suc, ◌+◌, ◌*◌, ◌≤◌, ◌<◌, ◌≡◌, refl, false, get_or, drop, set}
use Rattle.std.proofs.Math.Path.{sym, ap}
use Rattle.std.proofs.Common.{◌∙◌, add-one, drop_of_length-le, drop-cons, take-suc-set}
use Rattle.std.proofs.Math.Bool.{true}
use mathlib.Core.List.{List, [], ◌∷◌, ◌++◌, append_assoc, append-nil}
use native.Mathlib.Omega.{arith}
use Rattle.std.proofs.Math.ListN.{length, take, length-set}
use Rattle.std.proofs.Math.Seq.{take_all}
use borrow.Author.Tests.{lt-ltb, eq-eqb, ne_eqb}
use Rattle.hexadecimals.specs.Digits.{digit_of, all_digits, bytes_of}
use Rattle.hexadecimals.specs.Spelling.{spells, Spelled}

-- n bytes, of which i are made: what is left of the line decides, and gives the bytes that are left
pub record Begun (n : ℕ) (line bytes : List ℕ) (i : ℕ) : Type 0 where
  pub turns : i ≤ n
  pub whole : length bytes ≡ n
  pub digits : all_digits line ≡ all_digits (drop (2 * i) line)
  pub spelled : bytes_of line ≡ take i bytes ++ bytes_of (drop (2 * i) line)

pub begin : {n : ℕ} (line bytes : List ℕ) → length bytes ≡ n → Begun n line bytes 0
begin line bytes h = record { turns = omega arith; whole = h; digits = refl; spelled = refl }

-- the next two characters
next_two : (line : List ℕ) (i : ℕ)
    → 2 * i + 1 < length line
    → drop (2 * i) line ≡ get_or line (2 * i) 0 ∷ (get_or line (2 * i + 1) 0 ∷ drop (2 * (i + 1)) line)
next_two line i fits =
    let one = drop-cons line (2 * i) 0 (omega arith) in
    let two = drop-cons line (suc (2 * i)) 0 (omega arith) in
    let e : suc (2 * i) ≡ 2 * i + 1 = omega arith in
    let f : suc (suc (2 * i)) ≡ 2 * (i + 1) = omega arith in
    one ∙ ap (λ (l : List ℕ). get_or line (2 * i) 0 ∷ l) (two ∙ ap (λ (k : ℕ). get_or line k 0 ∷ drop (suc (suc (2 * i))) line) e)
    ∙ ap (λ (k : ℕ). get_or line (2 * i) 0 ∷ (get_or line (2 * i + 1) 0 ∷ drop k line)) f

-- one turn, over the digits that were read
module _ {n : ℕ} {line bytes : List ℕ} {i high low : ℕ}
    (b : Begun n line bytes i)
    (fits : 2 * i + 1 < length line)
    (first : high ≡ digit_of (get_or line (2 * i) 0))
    (second : low ≡ digit_of (get_or line (2 * i + 1) 0)) where
  pub again : i < n → high ≤ 15 → low ≤ 15 → Begun n line (set bytes i (16 * high + low)) (i + 1)
  unfolding all_digits bytes_of
  again t h l =
      let v = 16 * high + low in
      let h' : digit_of (get_or line (2 * i) 0) < 16 = omega arith in
      let l' : digit_of (get_or line (2 * i + 1) 0) < 16 = omega arith in
      let e : v ≡ 16 * digit_of (get_or line (2 * i) 0) + digit_of (get_or line (2 * i + 1) 0) = omega arith in
      let inside : i < length bytes = omega (arith, b.whole) in
      record {
        turns = omega arith;
        whole = length-set bytes i v ∙ b.whole;
        digits = b.digits ∙ ap all_digits (next_two line i fits) ∙ simp (lt-ltb _ _ h', lt-ltb _ _ l');
        spelled = b.spelled
            ∙ ap (λ (k : List ℕ). take i bytes ++ bytes_of k) (next_two line i fits)
            ∙ ap (λ (k : ℕ). take i bytes ++ (k ∷ bytes_of (drop (2 * (i + 1)) line))) (sym e)
            ∙ sym (append_assoc (take i bytes) (v ∷ []) (bytes_of (drop (2 * (i + 1)) line)))
            ∙ ap (λ (k : List ℕ). k ++ bytes_of (drop (2 * (i + 1)) line)) (sym (take-suc-set bytes i v inside))
            ∙ ap (λ (k : ℕ). take k (set bytes i v) ++ bytes_of (drop (2 * (i + 1)) line)) (sym (add-one i));
      }

-- n bytes of 2n characters: the whole line
module _ {n : ℕ} {line bytes : List ℕ} (size : length line ≡ 2 * n) (b : Begun n line bytes n) where
  nothing_left : drop (2 * n) line ≡ []
  nothing_left = drop_of_length-le line {i = 2 * n} (omega arith)

  pub all_digits_lem : all_digits line ≡ true
  unfolding all_digits
  all_digits_lem = b.digits ∙ ap all_digits nothing_left

  pub all_bytes : bytes ≡ bytes_of line
  unfolding bytes_of
  all_bytes =
      let all : take n bytes ≡ bytes = take_all n bytes (omega (arith, b.whole)) in
      sym (b.spelled ∙ ap (λ (k : List ℕ). take n bytes ++ bytes_of k) nothing_left ∙ append-nil (take n bytes) ∙ all)

-- what is made of the bytes, by whether the line spells as many
module _ {line : List ℕ} (before : List ℕ) where
  as_it_was : spells (length before) line ≡ false → Spelled line before before false
  as_it_was e = record { told = sym e; bytes = simp e }

  pub other_length : (length line ≡ 2 * length before → ⊥) → Spelled line before before false
  unfolding spells
  other_length h = as_it_was (simp (ne_eqb _ _ h))

  pub other_character : length line ≡ 2 * length before → all_digits line ≡ false → Spelled line before before false
  unfolding spells
  other_character h e = as_it_was (simp (eq-eqb _ _ h, e))

  pub all_spelled : {bytes : List ℕ} {i : ℕ} → length line ≡ 2 * length before → Begun (length before) line bytes i → length before ≤ i → Spelled line before bytes true
  unfolding spells
  all_spelled {bytes} {i} h b l =
      let last : i ≡ length before = omega (arith, b.turns) in
      let made : Begun (length before) line bytes (length before) = rw last at b in
      let e : spells (length before) line ≡ true = simp (eq-eqb _ _ h, all_digits_lem h made) in
      record { told = sym e; bytes = simp e (all_bytes h made) }
