-- The way back and in again: the double nearest to n / s passes test 16, and its way in is n. Assumes nothing.
use Rattle.std.specs.Prelude.{◌≡◌, refl, Bool, true, false, not, ◌||◌, T, ltb, Float}
use Rattle.std.proofs.Common.{ap, ◌∙◌, subst, true≢false, lt_of_le_of_lt, mul-le-mul, mul-le-mul_right, mul-pos, mod-lt, div-add-mod', div-le_self, le_of_mul-le-mul_right, arith, leb→le, eqb→eq, lit<, pow_pos, pow_mono, shl_lt, le-ltb}
use Prim.Native.Nat.{ℕ, ◌+◌, ◌-◌, ◌*◌, ◌/◌, ◌%◌, ◌^◌, ◌≤◌, ◌<◌, compare, Ordering}
use Rattle.std.proofs.Math.Nat.{div-eq_of_lt-le}
use Rattle.std.proofs.Math.Dec.{is_le, compare_is_eq, nleb→lt}
use Rattle.std.specs.Float.Ieee as Ieee
use Rattle.std.specs.Float.{nan, inf, fin, binary64}
use Rattle.std.specs.Float.Ieee.{up, down, size, lt, of_int}
use Rattle.std.specs.Float.Ieee.Digits.{Equals, size-le}
use Rattle.std.specs.Float.Ieee.Exact.{HasValue}
use Rattle.std.specs.Float.Ieee.Nearest.{closest}
use Rattle.std.specs.Float.Ieee.Order.{drop}
use Rattle.std.specs.Float.Ieee.Scale.{grid, round_val}
use Rattle.doubles.specs.Doubles.{unusable, rounded, nearest}
use Rattle.doubles.specs.RoundTrip.{Fraction}
use Rattle.doubles.specs.laws.Values.{rounded_value}

-- a / b to the nearest whole number is within a half of it
rounds : (q r b : ℕ) (o : Ordering) → r < b → (T (is_le o) → r * 2 ≤ b) → (T (not (is_le o)) → b < r * 2) → (T (compare_is_eq o) → r * 2 ≡ b)
    → (2 * (Ieee.nearest q o * b) ≤ 2 * (q * b + r) + b) × (2 * (q * b + r) ≤ 2 * (Ieee.nearest q o * b) + b)
rounds q r b Ordering.lt h l g e = let l' = l tt in (omega arith, omega arith)
rounds q r b Ordering.eq h l g e =
    let e' = e tt in
    let p : q % 2 * b ≤ 1 * b = mul-le-mul_right b (bit q) in
    (omega arith, omega arith)
  where
    bit : (q : ℕ) → q % 2 ≤ 1
    bit q = omega arith
rounds q r b Ordering.gt h l g e = let g' = g tt in (omega arith, omega arith)

pub closest_near : (a b : ℕ) → 0 < b → (2 * (closest a b * b) ≤ 2 * a + b) × (2 * a ≤ 2 * (closest a b * b) + b)
closest_near a b B =
    subst (λ (z : ℕ). (2 * (closest a b * b) ≤ 2 * z + b) × (2 * z ≤ 2 * (closest a b * b) + b)) (div-add-mod' a b)
    (rounds (a / b) (a % b) b (compare (a % b * 2) b) (mod-lt a B) (leb→le (a % b * 2) b) (nleb→lt (a % b * 2) b) (eqb→eq (a % b * 2) b))

below : (s n : ℕ) → Fraction s n → n < 2 ^ 30
below s n f = omega arith

-- the nearest double in units of 2 ^ -1074
abbrev pub P : ℕ
P = 2 ^ 1074

-- the digits that the format drops
pub dropped : (s n : ℕ) → Fraction s n → drop 53 (n * P) s ≤ 1051
dropped s n f = less (size (n * P / s)) (size-le (n * P / s) 1104 (lt_of_le_of_lt (div-le_self (n * P) s) (shl_lt 30 1074 (below s n f))))
  where
    less : (z : ℕ) → z ≤ 1104 → z - 53 ≤ 1051
    less z h = omega arith

-- one unit of its last digit, times the scale, is below 1
unit_lt : (s n : ℕ) → Fraction s n → s * 2 ^ drop 53 (n * P) s < P
unit_lt s n f = lt_of_le_of_lt (mul-le-mul f.most (pow_mono (dropped s n f))) (lit< tt)

-- g units are within a half of n / s, times s
record Near (s n g p : ℕ) : Type 0 where
  under : 2 * (g * s) < 2 * (n * p) + p
  over : 2 * (n * p) < 2 * (g * s) + p

within : (s n q w u p : ℕ) → u ≡ s * w → 2 * (q * u) ≤ 2 * (n * p) + u → 2 * (n * p) ≤ 2 * (q * u) + u → u < p → Near s n (q * w) p
within s n q w u p e a b h =
    let v : q * u ≡ q * w * s = ap (λ (i : ℕ). q * i) e ∙ regroup q s w in
    record { under = omega arith; over = omega arith }
  where
    regroup : (q s w : ℕ) → q * (s * w) ≡ q * w * s
    regroup q s w = omega arith

near : (s n : ℕ) → Fraction s n → Near s n (grid binary64 n s) P
near s n f =
    let w = 2 ^ drop 53 (n * P) s in
    let c = closest_near (n * P) (s * w) (mul-pos f.scale (pow_pos (drop 53 (n * P) s))) in
    within s n (closest (n * P) (s * w)) w (s * w) P refl c.0 c.1 (unit_lt s n f)

-- so it is below 1,000,000,000
capped : (s n g p : ℕ) → Fraction s n → 0 < p → Near s n g p → g ≤ 1000000000 * p
capped s n g p f h r =
    let b : n * p ≤ 1000000 * s * p = mul-le-mul_right p f.number in
    let d : 1 * p ≤ s * p = mul-le-mul_right p f.scale in
    le_of_mul-le-mul_right {k = s} (omega (arith, r.under)) f.scale

pub equals : (x : Float) (a c : ℕ) → HasValue x false a c → Equals x a c
equals nan a c h = h
equals (inf t) a c h = h
equals (fin t m e) a c h = h.1

-- a value from zero to 1,000,000,000 passes test 16
under_limit : (M D a c : ℕ) → M * c ≡ a * D → a ≤ 1000000000 * c → M * 1 * c ≤ 1000000000 * D * c
under_limit M D a c v h = omega (arith, v, mul-le-mul_right D h)

neither : (a b : Bool) → a ≡ false → b ≡ false → (a || b) ≡ false
neither true b p q = p
neither false b p q = q

no_lower : (n d : ℕ) → 0 * d ≤ n
no_lower n d = omega arith

passes : (x : Float) (a c : ℕ) → 0 < c → HasValue x false a c → a ≤ 1000000000 * c → unusable x ≡ false
unfolding unusable lt of_int
passes nan a c C h l = absurd h
passes (inf t) a c C h l = absurd h
passes (fin true m e) a c C h l = absurd (true≢false h.0)
passes (fin false m e) a c C h l =
    neither (ltb (m * up e * 1) (0 * down e)) (ltb (1000000000 * down e) (m * up e * 1)) (le-ltb (m * up e * 1) (0 * down e) (no_lower (m * up e * 1) (down e)))
    (le-ltb (1000000000 * down e) (m * up e * 1) (le_of_mul-le-mul_right (under_limit (m * up e) (down e) a c h.1 l) C))

module _ (s n : ℕ) (f : Fraction s n) where
  units_le : grid binary64 n s ≤ 1000000000 * P
  units_le = capped s n (grid binary64 n s) P f (pow_pos 1074) (near s n f)

  pub value : HasValue (nearest s n) false (grid binary64 n s) P
  value = round_val binary64 n s (lt_of_le_of_lt units_le (lit< tt))

  pub back_in : rounded s (nearest s n) ≡ n
  back_in =
      let r = near s n f in
      rounded_value s (nearest s n) (grid binary64 n s) P (pow_pos 1074) (equals (nearest s n) (grid binary64 n s) P value)
      ∙ div-eq_of_lt-le (2 * P) (low (grid binary64 n s) P r.over) (high (grid binary64 n s) P r.under)
    where
      low : (g p : ℕ) → 2 * (n * p) < 2 * (g * s) + p → n * (2 * p) ≤ 2 * (g * s) + p
      low g p h = omega arith

      high : (g p : ℕ) → 2 * (g * s) < 2 * (n * p) + p → 2 * (g * s) + p < (n + 1) * (2 * p)
      high g p h = omega arith

  pub back_usable : unusable (nearest s n) ≡ false
  back_usable = passes (nearest s n) (grid binary64 n s) P (pow_pos 1074) value units_le
