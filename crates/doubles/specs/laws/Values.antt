-- The way in depends on a double's exact value alone, and a double that passes test 16 is at most 1,000,000,000. Assumes nothing.
use Rattle.std.specs.Prelude.{◌≡◌, refl, Bool, true, false, not, ◌||◌, ℕ, ◌+◌, ◌*◌, ◌/◌, ◌≤◌, ◌<◌, ℤ, pos, T, ltb, Float}
use Rattle.std.proofs.Common.{sym, ap, ◌∙◌, subst, true≢false, le_of_mul-le-mul_right, mul-le-mul_right, mul-pos, arith, ltb-false}
use Rattle.std.proofs.Math.Nat.{div-eq_of_lt, add-div_right, div-div-eq-div-mul}
use Rattle.std.specs.Float.{nan, inf, fin, binary64}
use Rattle.std.specs.Float.Ieee.{up, down, is_nan, lt, ne, of_int, of_bits}
use Rattle.std.specs.Float.Ieee.Fits.{down_pos}
use Rattle.std.specs.Float.Ieee.Compare.{differs_from_itself}
use Rattle.std.specs.Float.Ieee.Digits.{Equals}
use Rattle.std.specs.Float.Ieee.Nearest.{div_same}
use Rattle.std.specs.Float.Ieee.Scale.{finite}
use Rattle.doubles.specs.Doubles.{whole, unusable, rounded}

-- the way in, of any fraction a / c that x equals
cross : (M D a c k : ℕ) → M * c ≡ a * D → (2 * (M * k) + D) * (2 * c) ≡ (2 * (a * k) + c) * (2 * D)
cross M D a c k h = omega (arith, ap (λ (i : ℕ). i * k) h)

double_pos : (c : ℕ) → 0 < c → 0 < 2 * c
double_pos c h = omega arith

pub rounded_value : (k : ℕ) (x : Float) (a c : ℕ) → 0 < c → Equals x a c → rounded k x ≡ (2 * (a * k) + c) / (2 * c)
unfolding rounded
rounded_value k nan a c C h = absurd h
rounded_value k (inf s) a c C h = absurd h
rounded_value k (fin s m e) a c C h =
    div_same (2 * (m * up e * k) + down e) (2 * down e) (2 * (a * k) + c) (2 * c) (double_pos (down e) (down_pos e)) (double_pos c C) (cross (m * up e) (down e) a c k h)

-- below a half it is 0
under_half : (a c : ℕ) → 2 * a < c → 2 * a + c < 2 * c
under_half a c h = omega arith

pub nearest_none : (a k c : ℕ) → 2 * (a * k) < c → (2 * (a * k) + c) / (2 * c) ≡ 0
nearest_none a k c h = div-eq_of_lt (under_half (a * k) c h)

-- the fraction q * J / (2 * J * H) times k: its halves counted, and half of those rounded up
pub nearest_halves : (q J H k : ℕ) → 0 < J → 0 < H → (2 * (q * J * k) + 2 * (J * H)) / (2 * (2 * (J * H))) ≡ (q * k / H + 1) / 2
nearest_halves q J H k Jp Hp =
    div_same (2 * (q * J * k) + 2 * (J * H)) (2 * (2 * (J * H))) (q * k + H) (H * 2) (four Jp Hp) (two H Hp) (same q J H k)
    ∙ sym (div-div-eq-div-mul (q * k + H) H 2)
    ∙ ap (λ (i : ℕ). i / 2) (add-div_right (q * k) Hp)
  where
    same : (q J H k : ℕ) → (2 * (q * J * k) + 2 * (J * H)) * (H * 2) ≡ (q * k + H) * (2 * (2 * (J * H)))
    same q J H k = omega arith

    two : (H : ℕ) → 0 < H → 0 < H * 2
    two H h = omega arith

    double : (i : ℕ) → 0 < i → 0 < 2 * (2 * i)
    double i h = omega arith

    four : 0 < J → 0 < H → 0 < 2 * (2 * (J * H))
    four a b = double (J * H) (mul-pos a b)

-- the doubles 0 and 1,000,000,000
pub zero_is : whole 0 ≡ fin false 0 (pos 0)
unfolding of_int
zero_is = refl

pub billion_is : whole 1000000000 ≡ fin false 1953125 (pos 9)
unfolding of_int
billion_is = refl

-- as the code has them, by their bit patterns
pub zero_bits : of_bits binary64 0 ≡ whole 0
unfolding of_int of_bits
zero_bits = refl

pub billion_bits : of_bits binary64 0x41cd_cd65_0000_0000 ≡ whole 1000000000
unfolding of_int of_bits
billion_bits = refl

-- a double that passes test 16
none_of : (a b c : Bool) → (a || b || c) ≡ false → (a ≡ false) × (b ≡ false) × (c ≡ false)
none_of true b c h = absurd (true≢false h)
none_of false true c h = absurd (true≢false h)
none_of false false c h = (refl, refl, h)

not-not : (a : Bool) → not a ≡ false → T a
not-not true h = tt
not-not false h = absurd (true≢false h)

pub usable_finite : (x : Float) → unusable x ≡ false → T (finite x)
unfolding unusable
usable_finite x h = not-not (finite x) (none_of (not (finite x)) (lt x (whole 0)) (lt (whole 1000000000) x) h).0

pub no_nan : (x : Float) → T (finite x) → T (not (is_nan x))
unfolding is_nan
no_nan nan f = absurd f
no_nan (inf s) f = tt
no_nan (fin s m e) f = tt

no_sum : (n d : ℕ) → ltb 0 (n * 1 + 0 * d) ≡ false → n ≤ 0
no_sum n d h = omega (arith, ltb-false 0 (n * 1 + 0 * d) h)

none-le : (n d : ℕ) → n ≤ 0 → n ≤ 1000000000 * d
none-le n d h = omega arith

capped : (n d : ℕ) → ltb (1000000000 * d) (n * 1) ≡ false → n ≤ 1000000000 * d
capped n d h = omega (arith, ltb-false (1000000000 * d) (n * 1) h)

-- the size of a double that is neither below zero nor above 1,000,000,000
size-le : (s : Bool) (m : ℕ) (e : ℤ) → lt (fin s m e) (fin false 0 (pos 0)) ≡ false → lt (fin false 1953125 (pos 9)) (fin s m e) ≡ false → m * up e ≤ 1000000000 * down e
unfolding lt
size-le true m e a b = none-le (m * up e) (down e) (no_sum (m * up e) (down e) a)
size-le false m e a b = capped (m * up e) (down e) b

-- and so of any fraction a / c that it equals
pub usable_le : (x : Float) (a c : ℕ) → unusable x ≡ false → Equals x a c → a ≤ 1000000000 * c
unfolding unusable
usable_le nan a c h v = absurd v
usable_le (inf s) a c h v = absurd v
usable_le (fin s m e) a c h v =
    let n = none_of false (lt (fin s m e) (whole 0)) (lt (whole 1000000000) (fin s m e)) h in
    let l = size-le s m e (subst (λ (z : Float). lt (fin s m e) z ≡ false) zero_is n.1) (subst (λ (z : Float). lt z (fin s m e) ≡ false) billion_is n.2) in
    le_of_mul-le-mul_right (through (m * up e) (down e) a c v l) (down_pos e)
  where
    through : (M D a c : ℕ) → M * c ≡ a * D → M ≤ 1000000000 * D → a * D ≤ 1000000000 * c * D
    through M D a c v l = omega (arith, v, mul-le-mul_right c l)

-- the code's three tests are test 16
pub three_tests : (x : Float) → (is_nan x || lt x (whole 0) || lt (whole 1000000000) x) ≡ unusable x
unfolding unusable is_nan lt of_int
three_tests nan = refl
three_tests (inf true) = refl
three_tests (inf false) = refl
three_tests (fin s m e) = refl

-- and one by one
pub nan_unusable : (x : Float) → ne x x ≡ true → true ≡ unusable x
unfolding unusable
nan_unusable x h = subst (λ (y : Float). true ≡ unusable y) (sym (differs_from_itself x (subst T (sym h) tt))) refl

either : (a b c : Bool) → b ≡ true → true ≡ (a || b || c)
either true b c h = refl
either false true c h = refl
either false false c h = absurd (true≢false (sym h))

pub below_unusable : (x : Float) → lt x (whole 0) ≡ true → true ≡ unusable x
unfolding unusable
below_unusable x h = either (not (finite x)) (lt x (whole 0)) (lt (whole 1000000000) x) h

pub above_unusable : (x : Float) → ne x x ≡ false → lt x (whole 0) ≡ false → lt (whole 1000000000) x ≡ unusable x
unfolding unusable ne lt of_int
above_unusable nan a b = absurd (true≢false a)
above_unusable (inf true) a b = absurd (true≢false b)
above_unusable (inf false) a b = refl
above_unusable (fin s m e) a b = sym (ap (λ (t : Bool). t || lt (whole 1000000000) (fin s m e)) b)
