-- A double's exponent and fraction, taken from its bits by shifts and masks, give its exact value in units of 2 ^ -1074. Assumes nothing.
use Rattle.std.specs.Prelude.{◌≡◌, Bool, true, false, not, cond, ℕ, zero, suc, ◌+◌, ◌-◌, ◌*◌, ◌/◌, ◌%◌, ◌^◌, ◌≤◌, ◌<◌, T, eqb, leb, Float}
use Rattle.std.proofs.Common.{sym, ap, ◌∙◌, subst, le_trans, le_of_eq, lt_of_lt_of_le, lt_of_le_of_lt, lt_of_not-le, lt_irrefl, mul-le-mul, mul-le-mul_right, mul-le-mul_left, le-add_right, mul-one, arith, lit<, lit≤, pow-add, pow_pos, pow_mono}
use Rattle.std.proofs.lemmas.Nat.{shr_le, and_mask}
use Rattle.std.proofs.Math.Pow.{field}
use Rattle.std.specs.Int.Bits.{mask_lt}
use Rattle.std.specs.Float.{nan, inf, binary64}
use Rattle.std.specs.Float.Ieee.{odd, fits, is_nan, of_fields, of_bits, to_bits}
use Rattle.std.specs.Float.Ieee.Digits.{Equals, odd_val}
use Rattle.std.specs.Float.Ieee.Bits.{of_bits-to_bits}
use Rattle.std.specs.Float.Ieee.Scale.{finite}
use Rattle.doubles.specs.Doubles.{unusable, rounded}
use Rattle.doubles.specs.Bits.{exponent, fraction, units}
use Rattle.doubles.specs.laws.Values.{rounded_value, nearest_none, nearest_halves, no_nan, usable_finite, usable_le}

fields_value : (s : Bool) (e t : ℕ) → T (finite (of_fields binary64 s e t)) → Equals (of_fields binary64 s e t) (units e t) (2 ^ 1074)
unfolding of_fields
fields_value s zero t f = subst (λ (n : ℕ). Equals (odd 53 s t 0 1074) n (2 ^ 1074)) (mul-one t) (odd_val 53 s t 0 1074)
fields_value s (suc j) t f = go (eqb (suc j) 2047) (eqb t 0) f
  where
    go : (a b : Bool) → T (finite (cond a (cond b (inf s) nan) (odd 53 s (2 ^ 52 + t) j 1074))) → Equals (cond a (cond b (inf s) nan) (odd 53 s (2 ^ 52 + t) j 1074)) ((2 ^ 52 + t) * 2 ^ j) (2 ^ 1074)
    go true true f = absurd f
    go true false f = absurd f
    go false b f = odd_val 53 s (2 ^ 52 + t) j 1074

read : (b : ℕ) → of_bits binary64 b ≡ of_fields binary64 (leb (2 ^ 63) b) (exponent b) (fraction b)
unfolding of_bits
read b =
    ap (λ (e : ℕ). of_fields binary64 (leb (2 ^ 63) b) e (b % 2 ^ 52)) (field b 11 52 ∙ sym (and_mask (b / 2 ^ 52) 11))
    ∙ ap (λ (t : ℕ). of_fields binary64 (leb (2 ^ 63) b) (exponent b) t) (sym (and_mask b 52))

pub value : (x : Float) → T (fits binary64 x) → T (finite x) → Equals x (units (exponent (to_bits binary64 x)) (fraction (to_bits binary64 x))) (2 ^ 1074)
value x F f =
    let is : x ≡ of_fields binary64 (leb (2 ^ 63) (to_bits binary64 x)) (exponent (to_bits binary64 x)) (fraction (to_bits binary64 x)) = sym (of_bits-to_bits binary64 x F) ∙ read (to_bits binary64 x) in
    subst (λ (y : Float). Equals y (units (exponent (to_bits binary64 x)) (fraction (to_bits binary64 x))) (2 ^ 1074)) (sym is)
    (fields_value (leb (2 ^ 63) (to_bits binary64 x)) (exponent (to_bits binary64 x)) (fraction (to_bits binary64 x)) (subst (λ (y : Float). T (finite y)) is f))

-- bounds of the two fields
powers_back : (i p : ℕ) → 2 ^ i < 2 ^ p → i < p
powers_back i p h = lt_of_not-le (λ (g : p ≤ i). lt_irrefl (2 ^ i) (lt_of_lt_of_le h (pow_mono g)))

-- at most 1,000,000,000, so below 2 ^ 30
units_le : (e t : ℕ) → units e t ≤ 1000000000 * 2 ^ 1074 → e ≤ 1074
units_le zero t h = lit≤ tt
units_le (suc j) t h =
    let top : 2 ^ (52 + j) < 2 ^ 1104 =
    lt_of_le_of_lt (le_of_eq (pow-add 2 52 j)) (lt_of_le_of_lt (mul-le-mul_right (2 ^ j) (le-add_right (2 ^ 52) t)) (lt_of_le_of_lt h (lit< tt))) in
    less j (powers_back (52 + j) 1104 top)
  where
    less : (j : ℕ) → 52 + j < 1104 → suc j ≤ 1074
    less j h = omega arith

-- an exponent's field up to 1010: below a half, times a thousand
units_small : (e t k : ℕ) → t < 2 ^ 52 → k ≤ 1000 → e ≤ 1010 → 2 * (units e t * k) < 2 ^ 1074
units_small e t k T K E = lt_of_le_of_lt (mul-le-mul_left 2 (mul-le-mul (bound e t T E) K)) (lit< tt)
  where
    short : (t : ℕ) → t < 2 ^ 52 → t ≤ 2 ^ 53
    short t h = omega arith

    less : (t : ℕ) → t < 2 ^ 52 → 2 ^ 52 + t ≤ 2 ^ 53
    less t h = omega arith

    pred : (j : ℕ) → suc j ≤ 1010 → j ≤ 1010
    pred j h = omega arith

    bound : (e t : ℕ) → t < 2 ^ 52 → e ≤ 1010 → units e t ≤ 2 ^ 53 * 2 ^ 1010
    bound zero t T E = le_trans (short t T) (lit≤ tt)
    bound (suc j) t T E = mul-le-mul (less t T) (pow_mono (pred j E))

-- the code's result, of an exponent's field e above 0
halved : (e t k : ℕ) → 0 < e → e ≤ 1074 → (2 * (units e t * k) + 2 ^ 1074) / (2 * 2 ^ 1074) ≡ ((t + 2 ^ 52) * k / 2 ^ (1074 - e) + 1) / 2
halved zero t k P E = absurd (lt_irrefl 0 P)
halved (suc j) t k P E =
    let J = 2 ^ j in
    let H = 2 ^ (1074 - suc j) in
    let split : 2 ^ 1074 ≡ 2 * (J * H) = ap (λ (i : ℕ). 2 ^ i) (sum j E) ∙ pow-add 2 1 (j + (1074 - suc j)) ∙ ap (λ (i : ℕ). 2 * i) (pow-add 2 j (1074 - suc j)) in
    ap (λ (l : ℕ). (2 * ((2 ^ 52 + t) * J * k) + l) / (2 * l)) split
    ∙ nearest_halves (2 ^ 52 + t) J H k (pow_pos j) (pow_pos (1074 - suc j))
    ∙ ap (λ (q : ℕ). (q * k / H + 1) / 2) (swap t)
  where
    sum : (j : ℕ) → suc j ≤ 1074 → 1074 ≡ 1 + (j + (1074 - suc j))
    sum j h = omega arith

    swap : (t : ℕ) → 2 ^ 52 + t ≡ t + 2 ^ 52
    swap t = omega arith

-- what `rounded_by` works out, step by step
module _ (k : ℕ) (x : Float) (F : T (fits binary64 x)) (U : unusable x ≡ false) (K : k ≤ 1000) where
  abbrev e : ℕ
  e = exponent (to_bits binary64 x)

  abbrev t : ℕ
  t = fraction (to_bits binary64 x)

  equals : Equals x (units e t) (2 ^ 1074)
  equals = value x F (usable_finite x U)

  is : rounded k x ≡ (2 * (units e t * k) + 2 ^ 1074) / (2 * 2 ^ 1074)
  is = rounded_value k x (units e t) (2 ^ 1074) (pow_pos 1074) equals

  fraction_lt : t < 2 ^ 52
  fraction_lt = mask_lt (to_bits binary64 x) 52

  pub is_no_nan : T (not (is_nan x))
  is_no_nan = no_nan x (usable_finite x U)

  pub tiny : e ≤ 1010 → 0 ≡ rounded k x
  tiny h = sym (is ∙ nearest_none (units e t) k (2 ^ 1074) (units_small e t k fraction_lt K h))

  pub digits_fit : t + 2 ^ 52 < 2 ^ 64
  digits_fit = go t fraction_lt
    where
      go : (t : ℕ) → t < 2 ^ 52 → t + 2 ^ 52 < 2 ^ 64
      go t h = omega arith

  product_lt : (t + 2 ^ 52) * k < 2 ^ 63
  product_lt = lt_of_le_of_lt (mul-le-mul (go t fraction_lt) K) (lit< tt)
    where
      go : (t : ℕ) → t < 2 ^ 52 → t + 2 ^ 52 ≤ 2 ^ 53
      go t h = omega arith

  pub product_fits : (t + 2 ^ 52) * k < 2 ^ 64
  product_fits = lt_of_lt_of_le product_lt (lit≤ tt)

  pub to_the_right : e ≤ 1074
  to_the_right = units_le e t (usable_le x (units e t) (2 ^ 1074) U equals)

  pub halves_fit : (t + 2 ^ 52) * k / 2 ^ (1074 - e) + 1 < 2 ^ 64
  halves_fit = go ((t + 2 ^ 52) * k / 2 ^ (1074 - e)) (lt_of_le_of_lt (shr_le ((t + 2 ^ 52) * k) (1074 - e)) product_lt)
    where
      go : (h : ℕ) → h < 2 ^ 63 → h + 1 < 2 ^ 64
      go h l = omega arith

  pub half_up : 1010 < e → ((t + 2 ^ 52) * k / 2 ^ (1074 - e) + 1) / 2 ≡ rounded k x
  half_up h = sym (is ∙ halved e t k (lt_of_le_of_lt (lit≤ tt) h) to_the_right)
