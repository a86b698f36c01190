-- A number's bytes give the number, and the bytes of a number that was read are those that were read. Assumes nothing.
use Rattle.std.specs.Prelude.{ℕ, zero, suc, ◌+◌, ◌*◌, ◌/◌, ◌%◌, ◌^◌, ◌<◌, ◌≡◌, refl, true, List, [], ◌∷◌, ◌++◌, T, ltb, length}
use Rattle.std.proofs.Common.{ap, ◌∙◌, mod-eq_of_lt, arith, ltb→lt, lt→ltb, shr-shr, shr_lt}
use Rattle.std.proofs.Math.Pow.{are_bytes}
use Rattle.std.proofs.lemmas.Nat.{mod-pow-add}
use Rattle.std.specs.Float.Ieee.Fits.{and_i, and_l, and_r}
use Rattle.byte_numbers.specs.Numbers.{one_at, two_at, four_at, eight_at, one, two, four, eight}

-- the number that is read, from the bytes that are stored

pub one_back : (v : ℕ) → v < 2 ^ 8 → v % 256 ≡ v
one_back v h = mod-eq_of_lt h

pub two_back : (v : ℕ) → v < 2 ^ 16 → 256 * (v / 2 ^ 8 % 256) + v % 256 ≡ v
two_back v h = omega arith

abbrev pub joined : ℕ → ℕ
joined v = 65536 * (256 * (v / 2 ^ 24 % 256) + v / 2 ^ 16 % 256) + (256 * (v / 2 ^ 8 % 256) + v % 256)

last_four : (v : ℕ) → joined v ≡ v % 2 ^ 32
last_four v =
    go (v / 2 ^ 24 % 256) (v / 2 ^ 16 % 256) (v / 2 ^ 8 % 256) (v % 256) (v / 2 ^ 16 % 2 ^ 16) (v % 2 ^ 16) (v % 2 ^ 32)
    (mod-pow-add (v / 2 ^ 16) 8 8 ∙ ap (λ (x : ℕ). x % 2 ^ 8 * 2 ^ 8 + v / 2 ^ 16 % 2 ^ 8) (shr-shr v 16 8)) (mod-pow-add v 8 8) (mod-pow-add v 16 16)
  where
    go : (a b c d h l w : ℕ) → h ≡ a * 256 + b → l ≡ c * 256 + d → w ≡ h * 65536 + l → 65536 * (256 * a + b) + (256 * c + d) ≡ w
    go a b c d h l w p q r = omega arith

pub four_back : (v : ℕ) → v < 2 ^ 32 → joined v ≡ v
four_back v h = last_four v ∙ mod-eq_of_lt h

pub eight_back : (v : ℕ) → v < 2 ^ 64 → 2 ^ 32 * joined (v / 2 ^ 32) + joined v ≡ v
eight_back v h =
    ap (λ (x : ℕ). 2 ^ 32 * x + joined v) (four_back (v / 2 ^ 32) (shr_lt 32 32 h)) ∙ ap (λ (x : ℕ). 2 ^ 32 * (v / 2 ^ 32) + x) (last_four v) ∙ whole v
  where
    whole : (v : ℕ) → 2 ^ 32 * (v / 2 ^ 32) + v % 2 ^ 32 ≡ v
    whole v = omega arith

-- the bytes of the number that was read

first_byte : (b : ℕ) (s : List ℕ) → T (are_bytes (b ∷ s)) → (b < 256) × T (are_bytes s)
first_byte b s h = (ltb→lt b 256 (and_l (ltb b 256) (are_bytes s) h), and_r (ltb b 256) (are_bytes s) h)

-- a byte of the list, or 0 past its end
pub byte_at : (s : List ℕ) (i : ℕ) → T (are_bytes s) → one_at s i < 256
byte_at [] zero h = omega arith
byte_at [] (suc i) h = omega arith
byte_at (b ∷ s) zero h = (first_byte b s h).0
byte_at (b ∷ s) (suc i) h = byte_at s i (first_byte b s h).1

pub one_read : (s : List ℕ) (i : ℕ) → T (are_bytes s) → one (one_at s i) ≡ one_at s i ∷ []
unfolding one
one_read s i h = λ k. mod-eq_of_lt (byte_at s i h) k ∷ []

pub two_read : (s : List ℕ) (i : ℕ) → T (are_bytes s) → two (two_at s i) ≡ one_at s i ∷ one_at s (i + 1) ∷ []
unfolding two
two_read s i h =
    let p = parts (one_at s i) (one_at s (i + 1)) (byte_at s i h) (byte_at s (i + 1) h) in
    λ k. p.0 k ∷ p.1 k ∷ []
  where
    parts : (a b : ℕ) → a < 256 → b < 256 → ((256 * a + b) / 2 ^ 8 % 256 ≡ a) × ((256 * a + b) % 256 ≡ b)
    parts a b p q = (omega arith, omega arith)

-- four bytes, the last of a number w of any size
parts : (a b c d w : ℕ) → a < 256 → b < 256 → c < 256 → d < 256 → w % 2 ^ 32 ≡ 65536 * (256 * a + b) + (256 * c + d) → four w ≡ a ∷ b ∷ c ∷ d ∷ []
unfolding four
parts a b c d w p q r s e = λ k. first k ∷ second k ∷ third k ∷ fourth k ∷ []
  where
    first : w / 2 ^ 24 % 256 ≡ a
    first = omega arith

    second : w / 2 ^ 16 % 256 ≡ b
    second = omega arith

    third : w / 2 ^ 8 % 256 ≡ c
    third = omega arith

    fourth : w % 256 ≡ d
    fourth = omega arith

four_lt : (a b c d : ℕ) → a < 256 → b < 256 → c < 256 → d < 256 → 65536 * (256 * a + b) + (256 * c + d) < 2 ^ 32
four_lt a b c d p q r s = omega arith

pub four_at_lt : (s : List ℕ) (i : ℕ) → T (are_bytes s) → four_at s i < 2 ^ 32
four_at_lt s i h =
    four_lt (one_at s i) (one_at s (i + 1)) (one_at s (i + 2)) (one_at s (i + 2 + 1))
    (byte_at s i h) (byte_at s (i + 1) h) (byte_at s (i + 2) h) (byte_at s (i + 2 + 1) h)

last_read : (s : List ℕ) (i w : ℕ) → T (are_bytes s) → w % 2 ^ 32 ≡ four_at s i → four w ≡ one_at s i ∷ one_at s (i + 1) ∷ one_at s (i + 2) ∷ one_at s (i + 2 + 1) ∷ []
last_read s i w h e =
    parts (one_at s i) (one_at s (i + 1)) (one_at s (i + 2)) (one_at s (i + 2 + 1)) w
    (byte_at s i h) (byte_at s (i + 1) h) (byte_at s (i + 2) h) (byte_at s (i + 2 + 1) h) e

pub four_read : (s : List ℕ) (i : ℕ) → T (are_bytes s) → four (four_at s i) ≡ one_at s i ∷ one_at s (i + 1) ∷ one_at s (i + 2) ∷ one_at s (i + 2 + 1) ∷ []
four_read s i h = last_read s i (four_at s i) h (mod-eq_of_lt (four_at_lt s i h))

pub eight_at_lt : (s : List ℕ) (i : ℕ) → T (are_bytes s) → eight_at s i < 2 ^ 64
eight_at_lt s i h = go (four_at s i) (four_at s (i + 4)) (four_at_lt s i h) (four_at_lt s (i + 4) h)
  where
    go : (a b : ℕ) → a < 2 ^ 32 → b < 2 ^ 32 → 2 ^ 32 * a + b < 2 ^ 64
    go a b p q = omega arith

pub eight_read : (s : List ℕ) (i : ℕ)
    → T (are_bytes s)
    → eight (eight_at s i) ≡ one_at s i ∷ one_at s (i + 1) ∷ one_at s (i + 2) ∷ one_at s (i + 2 + 1) ∷ one_at s (i + 4) ∷ one_at s (i + 4 + 1) ∷ one_at s (i + 4 + 2) ∷ one_at s (i + 4 + 2 + 1) ∷ []
unfolding eight
eight_read s i h =
    let p = halves (four_at s i) (four_at s (i + 4)) (four_at_lt s i h) (four_at_lt s (i + 4) h) in
    λ k. last_read s i (eight_at s i / 2 ^ 32) h p.0 k ++ last_read s (i + 4) (eight_at s i) h p.1 k
  where
    halves : (a b : ℕ) → a < 2 ^ 32 → b < 2 ^ 32 → ((2 ^ 32 * a + b) / 2 ^ 32 % 2 ^ 32 ≡ a) × ((2 ^ 32 * a + b) % 2 ^ 32 ≡ b)
    halves a b p q = (omega arith, omega arith)

-- a list of n bytes is the list of its bytes
abbrev pub listed : ℕ → (ℕ → ℕ) → List ℕ
listed zero f = []
listed (suc n) f = f 0 ∷ listed n (λ (i : ℕ). f (suc i))

pub as_listed : (n : ℕ) (s : List ℕ) → length s ≡ n → s ≡ listed n (λ (i : ℕ). one_at s i)
as_listed zero [] h = refl
as_listed zero (b ∷ s) h = absurd (omega arith)
as_listed (suc n) [] h = absurd (omega arith)
as_listed (suc n) (b ∷ s) h = ap (λ (l : List ℕ). b ∷ l) (as_listed n s (omega arith))

-- what is stored is bytes
pub append_bytes : (a b : List ℕ) → T (are_bytes a) → T (are_bytes b) → T (are_bytes (a ++ b))
append_bytes [] b p q = q
append_bytes (x ∷ a) b p q = let f = first_byte x a p in and_i (ltb x 256) (are_bytes (a ++ b)) (and_l (ltb x 256) (are_bytes a) p) (append_bytes a b f.1 q)

low : (v : ℕ) → T (ltb (v % 256) 256)
low v = lt→ltb (v % 256) 256 (omega arith)

pub one_bytes : (v : ℕ) → T (are_bytes (one v))
unfolding one
one_bytes v = and_i (ltb (v % 256) 256) true (low v) tt

pub two_bytes : (v : ℕ) → T (are_bytes (two v))
unfolding two one
two_bytes v = and_i (ltb (v / 2 ^ 8 % 256) 256) (are_bytes (one v)) (low (v / 2 ^ 8)) (one_bytes v)

pub four_bytes : (v : ℕ) → T (are_bytes (four v))
unfolding four two
four_bytes v =
    and_i (ltb (v / 2 ^ 24 % 256) 256) (are_bytes (v / 2 ^ 16 % 256 ∷ two v)) (low (v / 2 ^ 24))
    (and_i (ltb (v / 2 ^ 16 % 256) 256) (are_bytes (two v)) (low (v / 2 ^ 16)) (two_bytes v))

pub eight_bytes : (v : ℕ) → T (are_bytes (eight v))
unfolding eight
eight_bytes v = append_bytes (four (v / 2 ^ 32)) (four v) (four_bytes (v / 2 ^ 32)) (four_bytes v)
