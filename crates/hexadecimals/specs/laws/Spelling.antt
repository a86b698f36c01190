-- Laws of the bytes that a line spells: two characters at a time, one byte. Assumes nothing.
use Rattle.std.specs.Prelude.{ℕ, zero, suc, ◌+◌, ◌*◌, ◌%◌, ◌≤◌, ◌<◌, ◌≡◌, max, refl, Bool, false, ◌&&◌, cond, eqb, ltb, get_or, drop, set, Some, None}
use Rattle.std.proofs.Math.Path.{sym, ap}
use Rattle.std.proofs.Common.{◌∙◌, add-one, drop_of_length-le, drop-cons, take-suc-set, le-ltb, ltb-true}
use Rattle.std.proofs.Math.Bool.{true, and-true, and_assoc}
use Rattle.std.proofs.Math.Decide.{dec_le}
use mathlib.Core.List.{List, [], ◌∷◌, ◌++◌, append_assoc, append-nil}
use native.Mathlib.Omega.{arith}
use Rattle.std.proofs.Math.ListN.{length, take}
use Rattle.std.proofs.Math.Seq.{take_all}
use borrow.Author.Tests.{lt-ltb, eq-eqb, ne_eqb, eqb-true}
use Rattle.hexadecimals.specs.Digits.{digit_of, all_digits, bytes_of}
use Rattle.hexadecimals.specs.Spelling.{spells, spelled, Spelled}
use Rattle.exact.proofs.laws.Tests.{both_true}

-- i bytes are made: what is left of the line decides whether all are digits, if `most` is below 16, and then gives the bytes that are left
pub record Begun (line bytes : List ℕ) (i most : ℕ) : Type 0 where
  pub digits : all_digits line ≡ (ltb most 16 && all_digits (drop (2 * i) line))
  pub spelled : ltb most 16 ≡ true → bytes_of line ≡ take i bytes ++ bytes_of (drop (2 * i) line)

pub begin : (line bytes : List ℕ) → Begun line bytes 0 0
begin line bytes = record { digits = refl; spelled = λ h. refl }

-- the next two characters
next_two : (line : List ℕ) (i : ℕ)
    → 2 * i + 1 < length line
    → drop (2 * i) line ≡ get_or line (2 * i) 0 ∷ (get_or line (2 * i + 1) 0 ∷ drop (2 * (i + 1)) line)
next_two line i fits =
    let one = drop-cons line (2 * i) 0 (omega arith) in
    let two = drop-cons line (suc (2 * i)) 0 (omega arith) in
    let e : suc (2 * i) ≡ 2 * i + 1 = omega arith in
    let f : suc (suc (2 * i)) ≡ 2 * (i + 1) = omega arith in
    one ∙ ap (λ (l : List ℕ). get_or line (2 * i) 0 ∷ l) (two ∙ ap (λ (k : ℕ). get_or line k 0 ∷ drop (suc (suc (2 * i))) line) e)
    ∙ ap (λ (k : ℕ). get_or line (2 * i) 0 ∷ (get_or line (2 * i + 1) 0 ∷ drop k line)) f

-- the greater of two is below 16 where both are
below_max : (a b : ℕ) → ltb (max a b) 16 ≡ (ltb a 16 && ltb b 16)
below_max a b = go (dec_le (suc a) 16) (dec_le (suc b) 16)
  where
    go : Dec (a < 16) → Dec (b < 16) → ltb (max a b) 16 ≡ (ltb a 16 && ltb b 16)
    go (yes h) (yes k) = simp (lt-ltb a 16 h, lt-ltb b 16 k) (lt-ltb (max a b) 16 (omega arith))
    go (yes h) (no k) = simp (lt-ltb a 16 h, le-ltb b 16 (omega arith)) (le-ltb (max a b) 16 (omega arith))
    go (no h) d = simp (le-ltb a 16 (omega arith)) (le-ltb (max a b) 16 (omega arith))

-- one turn, over the digits that were read
module _ {line bytes : List ℕ} {i most high low : ℕ}
    (b : Begun line bytes i most)
    (fits : 2 * i + 1 < length line)
    (inside : i < length bytes)
    (first : high ≡ digit_of (get_or line (2 * i) 0))
    (second : low ≡ digit_of (get_or line (2 * i + 1) 0)) where
  pub again : {mid top : ℕ} → mid ≡ max most high → top ≡ max mid low → Begun line (set bytes i (16 * (high % 16) + low % 16)) (i + 1) top
  unfolding all_digits bytes_of
  again {mid} {top} m t =
      let v = 16 * (high % 16) + low % 16 in
      let rest = drop (2 * (i + 1)) line in
      let three : ltb top 16 ≡ (ltb most 16 && ltb high 16 && ltb low 16)
      = ap (λ (k : ℕ). ltb k 16) (t ∙ ap (λ (k : ℕ). max k low) m) ∙ below_max (max most high) low ∙ ap (λ (t : Bool). t && ltb low 16) (below_max most high) in
      record {
        digits = b.digits
            ∙ ap (λ (l : List ℕ). ltb most 16 && all_digits l) (next_two line i fits)
            ∙ ap (λ (k : ℕ). ltb most 16 && (ltb k 16 && (ltb (digit_of (get_or line (2 * i + 1) 0)) 16 && all_digits rest))) (sym first)
            ∙ ap (λ (k : ℕ). ltb most 16 && (ltb high 16 && (ltb k 16 && all_digits rest))) (sym second)
            ∙ sym (ap (λ (t : Bool). t && all_digits rest) three ∙ and_assoc (ltb most 16 && ltb high 16) (ltb low 16) (all_digits rest) ∙ and_assoc (ltb most 16) (ltb high 16) (ltb low 16 && all_digits rest));
        spelled = λ h.
            let p = both_true (ltb most 16 && ltb high 16) (ltb low 16) (sym three ∙ h) in
            let q = both_true (ltb most 16) (ltb high 16) p.0 in
            let h' = ltb-true high 16 q.1 in
            let l' = ltb-true low 16 p.1 in
            let e : v ≡ 16 * digit_of (get_or line (2 * i) 0) + digit_of (get_or line (2 * i + 1) 0) = omega arith in
            b.spelled q.0
            ∙ ap (λ (k : List ℕ). take i bytes ++ bytes_of k) (next_two line i fits)
            ∙ ap (λ (k : ℕ). take i bytes ++ (k ∷ bytes_of rest)) (sym e)
            ∙ sym (append_assoc (take i bytes) (v ∷ []) (bytes_of rest))
            ∙ ap (λ (k : List ℕ). k ++ bytes_of rest) (sym (take-suc-set bytes i v inside))
            ∙ ap (λ (k : ℕ). take k (set bytes i v) ++ bytes_of rest) (sym (add-one i));
      }

-- the whole line of two characters a byte
module _ {line bytes : List ℕ} {i most : ℕ} (b : Begun line bytes i most) (size : length line ≡ 2 * length bytes) (last : length bytes ≤ i) where
  nothing_left : drop (2 * i) line ≡ []
  nothing_left = drop_of_length-le line {i = 2 * i} (omega arith)

  pub all_told : ltb most 16 ≡ all_digits line
  unfolding all_digits
  all_told = sym (b.digits ∙ ap (λ (l : List ℕ). ltb most 16 && all_digits l) nothing_left ∙ and-true (ltb most 16))

  pub all_bytes : ltb most 16 ≡ true → bytes ≡ bytes_of line
  unfolding bytes_of
  all_bytes h = sym (b.spelled h ∙ ap (λ (k : List ℕ). take i bytes ++ bytes_of k) nothing_left ∙ append-nil (take i bytes) ∙ take_all i bytes last)

-- two characters a byte
pub length_bytes_of : (n : ℕ) (line : List ℕ) → length line ≡ 2 * n → length (bytes_of line) ≡ n
unfolding bytes_of
length_bytes_of zero [] h = refl
length_bytes_of (suc n) [] h = absurd (omega arith)
length_bytes_of n (a ∷ []) h = absurd (omega arith)
length_bytes_of zero (a ∷ (b ∷ line)) h = absurd (omega arith)
length_bytes_of (suc n) (a ∷ (b ∷ line)) h = ap suc (length_bytes_of n line (omega arith))

-- whether a line spells n bytes
module _ (n : ℕ) (line : List ℕ) where
  pub of_length : length line ≡ 2 * n → all_digits line ≡ spells n line
  unfolding spells
  of_length h = simp (eq-eqb _ _ h)

  pub other_length : (length line ≡ 2 * n → ⊥) → false ≡ spells n line
  unfolding spells
  other_length h = simp (ne_eqb _ _ h)

  pub is_spelled : spells n line ≡ true → Some (bytes_of line) ≡ spelled n line
  unfolding spelled
  is_spelled h = simp h

  pub not-spelled : spells n line ≡ false → None ≡ spelled n line
  unfolding spelled
  not-spelled h = simp h

-- what the bytes say of the line, and what it says that there are none
module _ (n : ℕ) (line : List ℕ) where
  parts : {bytes : List ℕ} (t : Bool) → spells n line ≡ t → cond t (Some (bytes_of line)) None ≡ Some bytes → (spells n line ≡ true) × (bytes ≡ bytes_of line)
  parts true e h = (e, cc)
  parts false e h = cc

  taken : {bytes : List ℕ} → spelled n line ≡ Some bytes → (spells n line ≡ true) × (bytes ≡ bytes_of line)
  unfolding spelled
  taken h = parts (spells n line) refl h

  both_of : {bytes : List ℕ} → spelled n line ≡ Some bytes → (eqb (length line) (2 * n) ≡ true) × (all_digits line ≡ true)
  unfolding spells
  both_of h = both_true (eqb (length line) (2 * n)) (all_digits line) (taken h).0

  pub some_bytes : {bytes : List ℕ} → spelled n line ≡ Some bytes → bytes ≡ bytes_of line
  some_bytes h = (taken h).1

  pub some_digits : {bytes : List ℕ} → spelled n line ≡ Some bytes → all_digits line ≡ true
  some_digits h = (both_of h).1

  pub some_size : {bytes : List ℕ} → spelled n line ≡ Some bytes → length line ≡ 2 * n
  some_size h = eqb-true (length line) (2 * n) (both_of h).0

  pub some_length : {bytes : List ℕ} → spelled n line ≡ Some bytes → length bytes ≡ n
  some_length h = ap length (some_bytes h) ∙ length_bytes_of n line (some_size h)

  pub none_digits : spelled n line ≡ None → length line ≡ 2 * n → all_digits line ≡ false
  none_digits h e = go (all_digits line) refl
    where
      go : (t : Bool) → all_digits line ≡ t → all_digits line ≡ false
      go true d = let f = is_spelled n line (sym (of_length n line e) ∙ d) in cc
      go false d = d

-- the bytes by the answer
pub by_answer : {line before after : List ℕ} (answer : Bool) → answer ≡ spells (length before) line → (answer ≡ true → after ≡ bytes_of line) → (answer ≡ false → after ≡ before) → Spelled line before after answer
by_answer true e f g = record { told = e; bytes = simp (sym e) (f refl) }
by_answer false e f g = record { told = e; bytes = simp (sym e) (g refl) }

-- what the answer says of the line
module _ {line before after : List ℕ} {answer : Bool} (s : Spelled line before after answer) where
  pub yes_bytes : answer ≡ true → after ≡ bytes_of line
  yes_bytes h = s.bytes ∙ simp (sym s.told ∙ h)

  both : answer ≡ true → (eqb (length line) (2 * length before) ≡ true) × (all_digits line ≡ true)
  unfolding spells
  both h = both_true (eqb (length line) (2 * length before)) (all_digits line) (sym s.told ∙ h)

  pub yes_digits : answer ≡ true → all_digits line ≡ true
  yes_digits h = (both h).1

  pub yes_size : answer ≡ true → length line ≡ 2 * length before
  yes_size h = eqb-true (length line) (2 * length before) (both h).0

  pub yes_length : answer ≡ true → length after ≡ length before
  yes_length h = ap length (yes_bytes h) ∙ length_bytes_of (length before) line (yes_size h)

  pub no_digits : answer ≡ false → length line ≡ 2 * length before → all_digits line ≡ false
  unfolding spells
  no_digits h n = simp (eq-eqb _ _ n) at (sym s.told ∙ h)
