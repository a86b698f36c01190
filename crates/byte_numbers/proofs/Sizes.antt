-- The four sizes one by one: the number in as many bytes, and a number's last bytes. Assumes nothing.
use Rattle.std.proofs.Common.{◌≡◌, ℕ, zero, suc, ◌+◌, ◌-◌, ◌*◌, ◌/◌, ◌%◌, ◌^◌, ◌<◌, ◌≤◌, ◌⊎◌, inl, inr, List, [], ◌∷◌, IsTrue, get_or, length, take, drop, refl, sym, ap, ◌∙◌, subst, arith, length-take-le, length-drop, replicate}
use Rattle.std.proofs.lemmas.Nat.{shr-shr}
use Rattle.std.proofs.lemmas.Bool.Decides.{nat_tests}
use Rattle.std.specs.Int.{w64, from_be_bytes}
use Rattle.std.proofs.lemmas.List.{get_or-take, get_or-drop}
use borrow.Rule.Slice.PartMut.{put_mid}
use Rattle.byte_numbers.specs.Numbers.{is_size, number_at, one_at, two_at, four_at, last_bytes, one, two, four, eight}
use Rattle.byte_numbers.specs.laws.Back.{listed, as_listed}

-- a size is one of four
one_of_four : (n : ℕ) → IsTrue (is_size n) → (n ≡ 1) ⊎ ((n ≡ 2) ⊎ ((n ≡ 4) ⊎ (n ≡ 8)))
one_of_four n h = grind (arith, nat_tests)

-- what holds at each of the four holds at every size
pub each_size : (P : ℕ → Type 0) → P 1 → P 2 → P 4 → P 8 → (n : ℕ) → IsTrue (is_size n) → P n
each_size P p q r s n h =
    elim (one_of_four n h) [
      | inl e ↦ subst P (sym e) p
      | inr t ↦ elim t [ inl e ↦ subst P (sym e) q | inr u ↦ elim u [ inl e ↦ subst P (sym e) r | inr e ↦ subst P (sym e) s ] ]
    ]

-- the number in as many bytes
pub number_below : (s : List ℕ) (at n : ℕ) → ((i : ℕ) → get_or s i 0 < 256) → IsTrue (is_size n) → number_at n s at < 2 ^ (8 * n)
number_below s at n b h = each_size (λ (k : ℕ). number_at k s at < 2 ^ (8 * k)) (omega (arith, b at)) (two at) (four at) (eight (four at) (four (at + 4))) n h
  where
    two : (i : ℕ) → two_at s i < 2 ^ 16
    two i = omega (arith, b i, b (i + 1))

    four : (i : ℕ) → four_at s i < 2 ^ 32
    four i = omega (arith, two i, two (i + 2))

    eight : {x y : ℕ} → x < 2 ^ 32 → y < 2 ^ 32 → 2 ^ 32 * x + y < 2 ^ 64
    eight p q = omega arith

-- a part of a list is the list of its elements
part_listed : (n : ℕ) (s : List ℕ) (at : ℕ) → at + n ≤ length s → take n (drop at s) ≡ listed n (λ (i : ℕ). one_at s (at + i))
part_listed n s at h =
    as_listed n (take n (drop at s)) (length-take-le n (drop at s) (omega (arith, length-drop at s)))
    ∙ same n (λ (i : ℕ). one_at (take n (drop at s)) i) (λ (i : ℕ). one_at s (at + i)) (λ i k. get_or-take n (drop at s) i 0 k ∙ get_or-drop at s i 0)
  where
    same : (n : ℕ) (f g : ℕ → ℕ) → ((i : ℕ) → i < n → f i ≡ g i) → listed n f ≡ listed n g
    same zero f g e = refl
    same (suc n) f g e = rw (e 0 (omega arith)) (ap (λ (l : List ℕ). g 0 ∷ l) (same n (λ (i : ℕ). f (suc i)) (λ (i : ℕ). g (suc i)) (λ i k. e (suc i) (omega arith))))

-- eight bytes, the last of them f's, and the number that they are
abbrev gathered : (n : ℕ) (f : ℕ → ℕ) → ℕ
gathered n f = from_be_bytes w64 (put_mid (8 - n) (8 - (8 - n)) (replicate 8 0) (listed n f))

of_listed : (s : List ℕ) (at n : ℕ) → IsTrue (is_size n) → gathered n (λ (i : ℕ). one_at s (at + i)) ≡ number_at n s at
of_listed s at n h =
    let f : ℕ → ℕ = λ i. one_at s (at + i) in
    let first : f 0 ≡ one_at s at = ap (one_at s) (omega arith) in
    let fourth : f 3 ≡ one_at s (at + 2 + 1) = ap (one_at s) (omega arith) in
    let sixth : f 5 ≡ one_at s (at + 4 + 1) = ap (one_at s) (omega arith) in
    let seventh : f 6 ≡ one_at s (at + 4 + 2) = ap (one_at s) (omega arith) in
    let eighth : f 7 ≡ one_at s (at + 4 + 2 + 1) = ap (one_at s) (omega arith) in
    each_size (λ (k : ℕ). gathered k f ≡ number_at k s at) (omega arith) (omega arith) (omega arith) (omega arith) n h

-- the same where the part is a slice
pub read : {q : List ℕ} (s : List ℕ) (at n : ℕ)
    → IsTrue (is_size n)
    → at + n ≤ length s
    → q ≡ take (at + n - at) (drop at s)
    → from_be_bytes w64 (put_mid (8 - n) (8 - (8 - n)) (replicate 8 0) q) ≡ number_at n s at
read {q} s at n h k e =
    let all : q ≡ listed n (λ (i : ℕ). one_at s (at + i)) = e ∙ ap (λ (m : ℕ). take m (drop at s)) (omega arith) ∙ part_listed n s at k in
    ap (λ (l : List ℕ). from_be_bytes w64 (put_mid (8 - n) (8 - (8 - n)) (replicate 8 0) l)) all ∙ of_listed s at n h

-- a number's eight bytes, each of the number shifted
pub eight_listed : (v : ℕ)
    → eight v
    ≡ v / 2 ^ 56 % 256 ∷ v / 2 ^ 48 % 256 ∷ v / 2 ^ 40 % 256 ∷ v / 2 ^ 32 % 256 ∷ v / 2 ^ 24 % 256 ∷ v / 2 ^ 16 % 256 ∷ v / 2 ^ 8 % 256 ∷ v % 256 ∷ []
unfolding eight four
eight_listed v = rw (shr-shr v 32 24, shr-shr v 32 16, shr-shr v 32 8) refl

-- a number's last bytes are the last of its eight, and as many as the size says
pub last_of : (v n : ℕ) → IsTrue (is_size n) → take (8 - (8 - n)) (drop (8 - n) (eight v)) ≡ last_bytes n v
unfolding one two four eight
last_of v n h =
    each_size (λ (k : ℕ). take (8 - (8 - k)) (drop (8 - k) (eight v)) ≡ last_bytes k v) refl refl refl refl n h

pub last_length : (v n : ℕ) → IsTrue (is_size n) → length (last_bytes n v) ≡ n
unfolding one two four eight
last_length v n h = each_size (λ (k : ℕ). length (last_bytes k v) ≡ k) refl refl refl refl n h
