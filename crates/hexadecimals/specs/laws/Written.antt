-- What is written reads back, and a line in upper case is what is written of its bytes. Assumes nothing.
use Rattle.std.specs.Prelude.{ℕ, zero, suc, ◌+◌, ◌*◌, ◌-◌, ◌/◌, ◌%◌, ◌≤◌, ◌<◌, ◌≡◌, refl, Bool, true, false, not, ◌&&◌, cond, List, [], ◌∷◌, T, leb, ltb, length}
use Rattle.std.proofs.Common.{ap, ◌∙◌, subst, arith, ltb→lt, lt→ltb, lt-ltb, le-ltb, le-leb, ltb-true}
use Rattle.std.proofs.Math.Decide.{dec_le}
use Rattle.std.proofs.Math.Pow.{are_bytes}
use Rattle.std.specs.Float.Ieee.Fits.{and_i, and_l, and_r}
use Rattle.std.proofs.lemmas.Bool.{lt-leb, not-true}
use Rattle.hexadecimals.specs.Digits.{within, digit_of, all_digits, bytes_of}
use Rattle.exact.proofs.laws.Tests.{both_true}
use Rattle.hexadecimals.specs.laws.Within.{within_true}
use Rattle.hexadecimals.specs.Written.{upper, digits_of, upper_case}

-- ---- the tests of a character
inside : (least most x : ℕ) → least ≤ x → x ≤ most → within least most x ≡ true
inside least most x a b = simp (le-leb least x a, le-leb x most b)

past : (least most x : ℕ) → most < x → within least most x ≡ false
past least most x h = go (leb least x) (lt-leb x most h)
  where
    go : (t : Bool) → leb x most ≡ false → (t && leb x most) ≡ false
    go true e = e
    go false e = refl

before : (least most x : ℕ) → x < least → within least most x ≡ false
before least most x h = simp (lt-leb least x h)

-- ---- one digit
small_digit : (b : ℕ) → 48 ≤ b → b ≤ 57 → digit_of b ≡ b - 48
unfolding digit_of
small_digit b h l = simp (inside 48 57 b h l)

capital_digit : (b : ℕ) → 65 ≤ b → b ≤ 70 → digit_of b ≡ b - 55
unfolding digit_of
capital_digit b h l = simp (past 48 57 b (omega arith), inside 65 70 b h l)

low_upper : (d : ℕ) → d < 10 → upper d ≡ 48 + d
unfolding upper
low_upper d h = simp (lt-ltb d 10 h)

high_upper : (d : ℕ) → 10 ≤ d → upper d ≡ 55 + d
unfolding upper
high_upper d h = simp (le-ltb d 10 h)

digit_upper : (d : ℕ) → d < 16 → digit_of (upper d) ≡ d
digit_upper d h = elim (dec_le 10 d) [
  | yes g ↦ ap digit_of (high_upper d g) ∙ capital_digit (55 + d) (omega arith) (omega arith) ∙ omega arith
  | no l ↦ ap digit_of (low_upper d (omega arith)) ∙ small_digit (48 + d) (omega arith) (omega arith) ∙ omega arith
]

upper_case_of : (d : ℕ) → d < 16 → within 97 102 (upper d) ≡ false
upper_case_of d h = elim (dec_le 10 d) [
  | yes g ↦ ap (within 97 102) (high_upper d g) ∙ before 97 102 (55 + d) (omega arith)
  | no l ↦ ap (within 97 102) (low_upper d (omega arith)) ∙ before 97 102 (48 + d) (omega arith)
]

-- a digit that is no small letter is what is written of its number
upper_digit : (b : ℕ) → digit_of b < 16 → within 97 102 b ≡ false → upper (digit_of b) ≡ b
unfolding digit_of
upper_digit b h n = go (within 48 57 b) refl (within 65 70 b) refl h
  where
    go : (p : Bool) → within 48 57 b ≡ p → (q : Bool) → within 65 70 b ≡ q → cond p (b - 48) (cond q (b - 55) (cond (within 97 102 b) (b - 87) 16)) < 16
        → upper (cond p (b - 48) (cond q (b - 55) (cond (within 97 102 b) (b - 87) 16))) ≡ b
    go true e q f h = let w = within_true 48 57 b e in low_upper (b - 48) (omega arith) ∙ omega arith
    go false e true f h = let w = within_true 65 70 b f in high_upper (b - 55) (omega arith) ∙ omega arith
    go false e false f h = absurd (none (subst (λ (t : Bool). cond t (b - 87) 16 < 16) n h))
      where
        none : 16 < 16 → ⊥
        none k = omega arith

-- ---- whole lists
pub first_byte : (b : ℕ) (bytes : List ℕ) → T (are_bytes (b ∷ bytes)) → (b < 256) × T (are_bytes bytes)
first_byte b bytes h = (ltb→lt b 256 (and_l (ltb b 256) (are_bytes bytes) h), and_r (ltb b 256) (are_bytes bytes) h)

halves : (b : ℕ) → b < 256 → (b / 16 < 16) × (b % 16 < 16) × (16 * (b / 16) + b % 16 ≡ b)
halves b h = (omega arith, omega arith, omega arith)

pub bytes_of_digits : (bytes : List ℕ) → T (are_bytes bytes) → bytes_of (digits_of bytes) ≡ bytes
unfolding bytes_of digits_of
bytes_of_digits [] h = refl
bytes_of_digits (b ∷ bytes) h =
    let f = first_byte b bytes h in
    let d = halves b f.0 in
    ap (λ (x : ℕ). (16 * x + digit_of (upper (b % 16))) ∷ bytes_of (digits_of bytes)) (digit_upper (b / 16) d.0)
    ∙ ap (λ (x : ℕ). (16 * (b / 16) + x) ∷ bytes_of (digits_of bytes)) (digit_upper (b % 16) d.1)
    ∙ ap (λ (x : ℕ). x ∷ bytes_of (digits_of bytes)) d.2
    ∙ ap (λ (l : List ℕ). b ∷ l) (bytes_of_digits bytes f.1)

pub all_digits_lem : (bytes : List ℕ) → T (are_bytes bytes) → all_digits (digits_of bytes) ≡ true
unfolding all_digits digits_of
all_digits_lem [] h = refl
all_digits_lem (b ∷ bytes) h =
    let f = first_byte b bytes h in
    let d = halves b f.0 in
    let high : digit_of (upper (b / 16)) < 16 = omega (arith, digit_upper (b / 16) d.0, d.0) in
    let low : digit_of (upper (b % 16)) < 16 = omega (arith, digit_upper (b % 16) d.1, d.1) in
    simp (lt-ltb (digit_of (upper (b / 16))) 16 high, lt-ltb (digit_of (upper (b % 16))) 16 low) (all_digits_lem bytes f.1)

pub upper_digits : (bytes : List ℕ) → T (are_bytes bytes) → upper_case (digits_of bytes) ≡ true
unfolding upper_case digits_of
upper_digits [] h = refl
upper_digits (b ∷ bytes) h =
    let f = first_byte b bytes h in
    let d = halves b f.0 in
    simp (upper_case_of (b / 16) d.0, upper_case_of (b % 16) d.1) (upper_digits bytes f.1)

joined : (x y : ℕ) → x < 16 → y < 16 → ((16 * x + y) / 16 ≡ x) × ((16 * x + y) % 16 ≡ y)
joined x y h k = (omega arith, omega arith)

-- a character that is a digit and no small letter, and the rest of such a line
first_digit : (b : ℕ) (line : List ℕ) → all_digits (b ∷ line) ≡ true → upper_case (b ∷ line) ≡ true → (digit_of b < 16) × (within 97 102 b ≡ false) × (all_digits line ≡ true) × (upper_case line ≡ true)
unfolding all_digits upper_case
first_digit b line a u =
    let p = both_true (ltb (digit_of b) 16) (all_digits line) a in
    let q = both_true (not (within 97 102 b)) (upper_case line) u in
    (ltb-true (digit_of b) 16 p.0, not-true (within 97 102 b) q.0, p.1, q.1)

pub digits_of_bytes : (n : ℕ) (line : List ℕ) → length line ≡ 2 * n → all_digits line ≡ true → upper_case line ≡ true → digits_of (bytes_of line) ≡ line
unfolding digits_of bytes_of
digits_of_bytes n [] h a u = refl
digits_of_bytes n (b ∷ []) h a u = absurd (omega arith)
digits_of_bytes zero (b ∷ (d ∷ line)) h a u = absurd (omega arith)
digits_of_bytes (suc n) (b ∷ (d ∷ line)) h a u =
    let p = first_digit b (d ∷ line) a u in
    let q = first_digit d line p.2 p.3 in
    let j = joined (digit_of b) (digit_of d) p.0 q.0 in
    let rest = digits_of (bytes_of line) in
    ap (λ (x : ℕ). upper x ∷ (upper ((16 * digit_of b + digit_of d) % 16) ∷ rest)) j.0
    ∙ ap (λ (x : ℕ). upper (digit_of b) ∷ (upper x ∷ rest)) j.1
    ∙ ap (λ (x : ℕ). x ∷ (upper (digit_of d) ∷ rest)) (upper_digit b p.0 p.1)
    ∙ ap (λ (x : ℕ). b ∷ (x ∷ rest)) (upper_digit d q.0 q.1)
    ∙ ap (λ (l : List ℕ). b ∷ (d ∷ l)) (digits_of_bytes n line (omega arith) q.2 q.3)

-- what a line of digits spells are bytes
pub spelled_bytes : (line : List ℕ) → all_digits line ≡ true → T (are_bytes (bytes_of line))
unfolding all_digits bytes_of
spelled_bytes [] a = tt
spelled_bytes (b ∷ []) a = tt
spelled_bytes (b ∷ (d ∷ line)) a =
    let p = both_true (ltb (digit_of b) 16) (ltb (digit_of d) 16 && all_digits line) a in
    let q = both_true (ltb (digit_of d) 16) (all_digits line) p.1 in
    let x = ltb-true (digit_of b) 16 p.0 in
    let y = ltb-true (digit_of d) 16 q.0 in
    and_i (ltb (16 * digit_of b + digit_of d) 256) (are_bytes (bytes_of line)) (lt→ltb (16 * digit_of b + digit_of d) 256 (omega arith)) (spelled_bytes line q.1)
