-- Two files that differ in one byte have different sums. Assumes nothing.
use Rattle.std.specs.Prelude.{◌≡◌, ℕ, ◌+◌, ◌*◌, ◌/◌, ◌%◌, ◌<◌, List, [], ◌∷◌, ◌++◌}
use Rattle.std.proofs.Common.{sym, ap, ◌∙◌, div-add-mod', mod-lt, mod-eq_of_lt, arith}
use Rattle.std.specs.List.{fold}
use Rattle.std.proofs.lemmas.List.Sums.{fold-append}
use Rattle.std.proofs.Math.Nat.{add-mul-mod_self_left}
use Rattle.scan.specs.Sums.{prime, next, sum_of}

small : (sum b : ℕ) → next sum b < prime
small sum b = mod-lt (256 * sum + b) (omega arith)

-- a remainder is below the divisor, whatever the quotients
same_rest : (r s f g : ℕ) → r < prime → s < prime → r + prime * f ≡ s + prime * g → r ≡ s
same_rest r s f g h k e =
    sym (mod-eq_of_lt h) ∙ sym (add-mul-mod_self_left r prime f) ∙ ap (λ (n : ℕ). n % prime) e ∙ add-mul-mod_self_left s prime g ∙ mod-eq_of_lt k

-- 256 is prime to the divisor: 256 · 285156252 = 1 + 73 · 1000000007
same_sum : (r s b : ℕ) → r < prime → s < prime → next r b ≡ next s b → r ≡ s
same_sum r s b h k e =
    let q = (256 * r + b) / prime in
    let t = (256 * s + b) / prime in
    same_rest r s (285156252 * t + 73 * r) (285156252 * q + 73 * s) h k (omega (arith, div-add-mod' (256 * r + b) prime, div-add-mod' (256 * s + b) prime))

same_byte : (r b c : ℕ) → b < 256 → c < 256 → next r b ≡ next r c → b ≡ c
same_byte r b c h k e = omega (arith, div-add-mod' (256 * r + b) prime, div-add-mod' (256 * r + c) prime)

same_start : (bytes : List ℕ) (r s : ℕ) → r < prime → s < prime → fold next r bytes ≡ fold next s bytes → r ≡ s
same_start [] r s h k e = e
same_start (b ∷ bytes) r s h k e = same_sum r s b h k (same_start bytes (next r b) (next s b) (small r b) (small s b) e)

-- a byte b anywhere in a file, and another c in its place
pub one_byte : (front back : List ℕ) (b c : ℕ)
    → b < 256
    → c < 256
    → sum_of (front ++ (b ∷ back)) ≡ sum_of (front ++ (c ∷ back))
    → b ≡ c
one_byte front back b c h k e =
    let r = sum_of front in
    let e' = sym (fold-append next 0 front (b ∷ back)) ∙ e ∙ fold-append next 0 front (c ∷ back) in
    same_byte r b c h k (same_start back (next r b) (next r c) (small r b) (small r c) e')
