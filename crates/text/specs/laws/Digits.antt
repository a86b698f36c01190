-- Laws of decimal digits. Assumes nothing.
use Rattle.std.specs.Prelude.{ℕ, zero, suc, ◌+◌, ◌/◌, ◌%◌, ◌^◌, ◌≤◌, ◌<◌, ◌≡◌, refl, List, [], ◌∷◌, ◌++◌, length, ltb}
use Rattle.std.proofs.Common.{sym, ap, ◌∙◌, not-suc-le-zero, pow-suc, arith, length-append, ltb-true, ltb-false}
use Rattle.std.specs.Fmt.{decimal as std_decimal}
use Rattle.std.proofs.lemmas.Fmt.{decimal_by_steps}
use Rattle.exact.proofs.laws.Tests.{settle}
use Rattle.text.specs.Digits.{places, decimal}

places_none : (k : ℕ) → places k 0 ≡ []
unfolding places
places_none zero = refl
places_none (suc k) = refl

-- all digits are there once there is room for them
places_all : (k j n : ℕ) → n ≤ k → n ≤ j → places k n ≡ places j n
unfolding places
places_all zero j zero h g = sym (places_none j)
places_all zero j (suc n) h g = absurd (not-suc-le-zero h)
places_all (suc k) zero zero h g = refl
places_all (suc k) zero (suc n) h g = absurd (not-suc-le-zero g)
places_all (suc k) (suc j) zero h g = refl
places_all (suc k) (suc j) (suc n) h g =
    ap (λ (d : List ℕ). d ++ ((48 + suc n % 10) ∷ [])) (places_all k j (suc n / 10) (omega arith) (omega arith))

-- a number's digits are its decimal
places_decimal : (k n : ℕ) → 0 < n → n ≤ k → places k n ≡ decimal n
unfolding places decimal
places_decimal k zero some h = absurd (not-suc-le-zero some)
places_decimal zero (suc n) some h = absurd (not-suc-le-zero h)
places_decimal (suc k) (suc n) some h =
    ap (λ (d : List ℕ). d ++ ((48 + suc n % 10) ∷ [])) (places_all k (suc n) (suc n / 10) (omega arith) (omega arith))

decimal_is : (n : ℕ) → decimal n ≡ places n (n / 10) ++ ((48 + n % 10) ∷ [])
unfolding decimal
decimal_is n = refl

pub decimal_one : {n : ℕ} → n < 10 → decimal n ≡ (48 + n) ∷ []
unfolding decimal
decimal_one {n} h =
    let tens : n / 10 ≡ 0 = omega arith in
    let last : n % 10 ≡ n = omega arith in
    rw (tens, places_none n, last)

pub decimal_more : {n : ℕ} → 10 ≤ n → decimal n ≡ decimal (n / 10) ++ ((48 + n % 10) ∷ [])
decimal_more {n} h = decimal_is n ∙ ap (λ (d : List ℕ). d ++ ((48 + n % 10) ∷ [])) (places_decimal n (n / 10) (omega arith) (omega arith))

pub decimal_some : (n : ℕ) → 1 ≤ length (decimal n)
decimal_some n =
    settle (ltb n 10)
    (λ e. rw (decimal_one (ltb-true n 10 e)) (omega arith))
    (λ e. rw (decimal_more (ltb-false n 10 e)) (simp length-append (omega arith)))

-- k digits hold what is below ten to the k
pub decimal_short : (k n : ℕ) → n < 10 ^ suc k → length (decimal n) ≤ suc k
decimal_short zero n h = let few : n < 10 = omega arith in rw (decimal_one few) (omega arith)
decimal_short (suc k) n h =
    settle (ltb n 10)
    (λ e. rw (decimal_one (ltb-true n 10 e)) (omega arith))
    (λ e.
    rw (decimal_more (ltb-false n 10 e))
    (simp length-append (omega (arith, decimal_short k (n / 10) (omega (arith, pow-suc 10 (suc k)))))))

-- the library's decimal is this one
pub decimal_std : (n : ℕ) → n < 2 ^ 64 → decimal n ≡ std_decimal n
decimal_std =
    decimal_by_steps (λ n digits. decimal n ≡ digits) (λ n h. decimal_one h) (λ n digits h e. decimal_more h ∙ ap (λ (d : List ℕ). d ++ ((48 + n % 10) ∷ [])) e)
