-- The double that the way back gives is nearest to n / s: no double is nearer, and no other is as near but minus zero. Assumes nothing.
use Rattle.std.specs.Prelude.{◌≡◌, refl, ◌⊎◌, ℕ, zero, suc, ◌+◌, ◌-◌, ◌*◌, ◌/◌, ◌%◌, ◌^◌, ◌≤◌, ◌<◌, ℤ, T, Float}
use Rattle.std.proofs.Common.{sym, ap, ◌∙◌, inl, inr, true≢false, le_trans, le_of_eq, lt_of_lt_of_le, lt_of_le_of_lt, mul_assoc, mul_comm, mul-pos, mul-le-mul_left, mul-lt-mul_of_pos_right, mul-div_cancel, le-div_iff_mul-le, lt_irrefl, zero-lt-suc, mul-one, arith, pow-add, pow_pos, pow_mono, eq-eqb}
use Rattle.std.proofs.Math.Path.{subst}
use Rattle.std.proofs.Math.Bool.{true, false}
use Rattle.std.proofs.Math.Nat.{eq_of_mul-eq-mul_right}
use Rattle.std.specs.Int.Bits.{mask_lt}
use Rattle.std.specs.Float.Ieee.{nan, fin, binary64, up, down, size, fits, of_bits, to_bits, hid}
use Rattle.std.specs.Float.{inf}
use Rattle.std.specs.Float.Ieee.Digits.{Equals, size_reaches}
use Rattle.std.specs.Float.Ieee.Exact.{HasValue}
use Rattle.std.specs.Float.Ieee.Fits.{down_pos, up_pos, round-fits}
use Rattle.std.specs.Float.Ieee.Bits.{of_bits-to_bits}
use Rattle.std.specs.Float.Ieee.Nearest.{closest}
use Rattle.std.specs.Float.Ieee.Order.{drop}
use Rattle.std.specs.Float.Ieee.Positive.{den, den_pos}
use Rattle.std.specs.Float.Ieee.Scale.{finite, grid}
use Rattle.doubles.specs.Doubles.{nearest, distance, Nearest, minus_zero}
use Rattle.doubles.specs.RoundTrip.{Fraction}
use Rattle.doubles.specs.laws.Closest.{apart, less_or_more, best, rival, divides}
use Rattle.doubles.specs.Bits.{exponent, fraction, units}
use Rattle.doubles.specs.laws.Bits.{value}
use Rattle.doubles.specs.laws.Distances.{distance_is, distance_below, distance_ge, no_nearer, as_near}
use Rattle.doubles.specs.laws.Trip as Trip
use Rattle.doubles.specs.laws.Trip.{P, closest_near, dropped}

-- a double's size in units is a multiple of 2 ^ k, or lies below 2 ^ (52 + k)
place : (k e t : ℕ) → t < 2 ^ 52 → ((a : ℕ) × (units e t ≡ a * 2 ^ k)) ⊎ ((0 < k) × (units e t < 2 ^ 52 * 2 ^ k))
place zero zero t h = inl (t, sym (mul-one t))
place (suc k) zero t h = inr (zero-lt-suc k, lt_of_lt_of_le h (grow (2 ^ 52) (2 ^ suc k) (pow_pos (suc k))))
  where
    grow : (a b : ℕ) → 0 < b → a ≤ a * b
    grow a b h = le_trans (le_of_eq (sym (mul-one a))) (mul-le-mul_left a h)
place k (suc j) t h = elim (less_or_more j k) [
  | inl l ↦ inr (lt_of_le_of_lt (least j) l, lt_of_lt_of_le (mul-lt-mul_of_pos_right (lead t h) (pow_pos j)) (le_trans (le_of_eq (sym (pow-add 2 53 j))) (le_trans (pow_mono (shift j k l)) (le_of_eq (pow-add 2 52 k)))))
  | inr g ↦ inl ((2 ^ 52 + t) * 2 ^ (j - k), ap (λ (i : ℕ). (2 ^ 52 + t) * i) (ap (λ (i : ℕ). 2 ^ i) (join j k g) ∙ pow-add 2 (j - k) k) ∙ sym (mul_assoc (2 ^ 52 + t) (2 ^ (j - k)) (2 ^ k)))
]
  where
    least : (j : ℕ) → 0 ≤ j
    least j = omega arith

    lead : (t : ℕ) → t < 2 ^ 52 → 2 ^ 52 + t < 2 ^ 53
    lead t h = omega arith

    shift : (j k : ℕ) → j < k → 53 + j ≤ 52 + k
    shift j k h = omega arith

    join : (j k : ℕ) → k ≤ j → j ≡ j - k + k
    join j k h = omega arith

-- two doubles of one value, and of one sign, are one double
bits_of : ℕ → ℕ
bits_of g = 0 + (size g - 53) * hid binary64 + g / 2 ^ (size g - 53)

bits_of_value : (x : Float) (g : ℕ) → HasValue x false g P → to_bits binary64 x ≡ bits_of g
unfolding to_bits bits_of
bits_of_value nan g h = absurd h
bits_of_value (inf t) g h = absurd h
bits_of_value (fin true m e) g h = absurd (true≢false h.0)
bits_of_value (fin false m e) g h = ap bits_of (ap (λ (i : ℕ). i / down e) h.1 ∙ mul-div_cancel g (down_pos e))

one_double : (x y : Float) (g : ℕ) → T (fits binary64 x) → T (fits binary64 y) → HasValue x false g P → HasValue y false g P → x ≡ y
one_double x y g F G h k =
    sym (of_bits-to_bits binary64 x F) ∙ ap (λ (b : ℕ). of_bits binary64 b) (bits_of_value x g h ∙ sym (bits_of_value y g k)) ∙ of_bits-to_bits binary64 y G

-- the two laws
module _ (s n : ℕ) (f : Fraction s n) where
  -- n / s in units of 2 ^ -1074, times s, and what the format rounds it by
  abbrev N : ℕ
  N = n * P

  abbrev k : ℕ
  k = drop 53 N s

  abbrev u : ℕ
  u = s * 2 ^ k

  abbrev q : ℕ
  q = closest N u

  abbrev g : ℕ
  g = grid binary64 n s

  unit_pos : 0 < u
  unit_pos = mul-pos f.scale (pow_pos k)

  regroup : (a : ℕ) → a * 2 ^ k * s ≡ a * u
  regroup a = mul_assoc a (2 ^ k) s ∙ ap (λ (i : ℕ). a * i) (mul_comm (2 ^ k) s)

  best_of : (a : ℕ) → apart (g * s) N ≤ apart (a * u) N
  best_of a =
      subst (λ (i : ℕ). apart i N ≤ apart (a * u) N) (sym (regroup q))
      (best q u N unit_pos (closest_near N u unit_pos).0 (closest_near N u unit_pos).1 a)

  -- where digits are dropped, 2 ^ (52 + k) units are no more than n / s
  reach : 0 < k → 2 ^ 52 * u ≤ N
  reach h =
      le_trans (le_of_eq (sym (regroup (2 ^ 52)) ∙ ap (λ (i : ℕ). i * s) (sym (pow-add 2 52 k))))
      ((le-div_iff_mul-le f.scale).0 (size_reaches (N / s) (52 + k) (all_in_use (size (N / s)) h)))
    where
      all_in_use : (z : ℕ) → 0 < z - 53 → 52 + (z - 53) < z
      all_in_use z h = omega arith

  low_is_farther : (a : ℕ) → 0 < k → a < 2 ^ 52 * 2 ^ k → apart (g * s) N < apart (a * s) N
  low_is_farther a h l =
      go (a * s) (2 ^ 52 * u) N (apart (g * s) N) (lt_of_lt_of_le (mul-lt-mul_of_pos_right l f.scale) (le_of_eq (regroup (2 ^ 52)))) (reach h) (best_of (2 ^ 52))
    where
      go : (i j m d : ℕ) → i < j → j ≤ m → d ≤ apart j m → d < apart i m
      go i j m d x y z = omega arith

  -- no double's size is nearer
  none_nearer_units : (e t : ℕ) → t < 2 ^ 52 → apart (g * s) N ≤ apart (units e t * s) N
  none_nearer_units e t h = elim (place k e t h) [
    | inl m ↦ subst (λ (i : ℕ). apart (g * s) N ≤ apart i N) (sym (ap (λ (i : ℕ). i * s) m.1 ∙ regroup m.0)) (best_of m.0)
    | inr l ↦ less (apart (g * s) N) (apart (units e t * s) N) (low_is_farther (units e t) l.0 l.1)
  ]
    where
      less : (i j : ℕ) → i < j → i ≤ j
      less i j h = omega arith

  own_value : HasValue (nearest s n) false g P
  own_value = Trip.value s n f

  finite_value : (x : Float) (a c : ℕ) → HasValue x false a c → T (finite x)
  finite_value nan a c h = h
  finite_value (inf t) a c h = h
  finite_value (fin t m e) a c h = tt

  pub is_nearest : Nearest s n (nearest s n)
  is_nearest =
      record {
        is_finite = finite_value (nearest s n) g P own_value;
        none_nearer = λ y F h.
            no_nearer (distance s n (nearest s n)) (distance s n y) (den (nearest s n)) (den y) (apart (g * s) N) (apart (units (exponent (to_bits binary64 y)) (fraction (to_bits binary64 y)) * s) N) P (pow_pos 1074)
            (distance_is s n (nearest s n) g P own_value)
            (distance_ge s n y (units (exponent (to_bits binary64 y)) (fraction (to_bits binary64 y))) P (value y F h))
            (none_nearer_units (exponent (to_bits binary64 y)) (fraction (to_bits binary64 y)) (mask_lt (to_bits binary64 y) 52));
      }

  -- n / s is never midway between two multiples of the last digit: the scale would be 2 ^ 10 at least
  no_tie : (o : ℕ) → o % 2 ≡ 1 → 2 * N ≡ o * u → ⊥
  no_tie o h e =
      let d = dropped s n f in
      let split : P ≡ 2 ^ (1064 - k) * 2 ^ 10 * 2 ^ k = ap (λ (i : ℕ). 2 ^ i) (sum k d) ∙ pow-add 2 (1064 - k + 10) k ∙ ap (λ (i : ℕ). i * 2 ^ k) (pow-add 2 (1064 - k) 10) in
      let e' : o * s * 2 ^ k ≡ 2 * n * 2 ^ (1064 - k) * 2 ^ 10 * 2 ^ k = cancel o (2 ^ k) (2 ^ (1064 - k)) P split e in
      clash (divides 10 o s (2 * n * 2 ^ (1064 - k)) h f.scale (eq_of_mul-eq-mul_right (2 ^ k) (pow_pos k) (o * s) (2 * n * 2 ^ (1064 - k) * 2 ^ 10) e')) f.most
    where
      sum : (k : ℕ) → k ≤ 1051 → 1074 ≡ 1064 - k + 10 + k
      sum k h = omega arith

      cancel : (o w v p : ℕ) → p ≡ v * 1024 * w → 2 * (n * p) ≡ o * (s * w) → o * s * w ≡ 2 * n * v * 1024 * w
      cancel o w v p x y = omega (arith, ap (λ (i : ℕ). n * i) x)

      clash : 1024 ≤ s → s ≤ 1000 → ⊥
      clash a b = omega arith

  -- a size that is as near is the same
  same_units : (e t : ℕ) → t < 2 ^ 52 → apart (units e t * s) N ≤ apart (g * s) N → units e t ≡ g
  same_units e t h r = elim (place k e t h) [
    | inr l ↦ absurd (clash (apart (g * s) N) (apart (units e t * s) N) (low_is_farther (units e t) l.0 l.1) r)
    | inl m ↦
        let near : apart (m.0 * u) N ≤ apart (q * u) N =
        subst (λ (i : ℕ). apart i N ≤ apart (q * u) N) (ap (λ (i : ℕ). i * s) m.1 ∙ regroup m.0) (subst (λ (i : ℕ). apart (units e t * s) N ≤ apart i N) (regroup q) r) in
        elim (rival q u N unit_pos (closest_near N u unit_pos).0 (closest_near N u unit_pos).1 m.0 near) [
          | inl e ↦ m.1 ∙ ap (λ (i : ℕ). i * 2 ^ k) e
          | inr o ↦ absurd (no_tie o.0 o.1 o.2)
        ]
  ]
    where
      clash : (i j : ℕ) → i < j → j ≤ i → ⊥
      clash i j a b = omega arith

  -- a double that is nearest and not minus zero
  nearer_or_same : (x : Float) → T (fits binary64 x) → Nearest s n x → distance s n x * den (nearest s n) ≤ distance s n (nearest s n) * den x
  nearer_or_same x F h = h.none_nearer (nearest s n) (round-fits binary64 false n s) (finite_value (nearest s n) g P own_value)

  -- what is as near as the nearest one
  no_farther : (d D b : ℕ) → 0 < D → b * D ≤ d * P → d * den (nearest s n) ≤ distance s n (nearest s n) * D → b ≤ apart (g * s) N
  no_farther d D b h l m =
      as_near (distance s n (nearest s n)) d (den (nearest s n)) D (apart (g * s) N) b P (mul-pos (den_pos (nearest s n)) h) (distance_is s n (nearest s n) g P own_value) l m

  -- its sign is not minus: only zero is as near from below
  not-below : (m : ℕ) (e : ℤ) (a : ℕ) → Equals (fin true m e) a P → distance s n (fin true m e) * den (nearest s n) ≤ distance s n (nearest s n) * down e → m ≡ 0
  not-below m e a v h =
      let r = no_farther (distance s n (fin true m e)) (down e) (a * s + N) (down_pos e) (le_of_eq (sym (distance_below s n m e a P v))) h in
      let z : a * s ≡ 0 = none (a * s) u N (apart (g * s) N) r (best_of 0) in
      no_size m (up e) P a (down e) (pow_pos 1074) (up_pos e) (no_factor a f.scale z) v
    where
      none : (i u m d : ℕ) → i + m ≤ d → d ≤ apart (0 * u) m → i ≡ 0
      none i u m d x y = omega arith

      no_factor : (a : ℕ) → 0 < s → a * s ≡ 0 → a ≡ 0
      no_factor zero h e = refl
      no_factor (suc a) h e = absurd (lt_irrefl 0 (subst (λ (i : ℕ). 0 < i) e (mul-pos (zero-lt-suc a) h)))

      no_size : (m v p a D : ℕ) → 0 < p → 0 < v → a ≡ 0 → m * v * p ≡ a * D → m ≡ 0
      no_size zero v p a D x y z e = refl
      no_size (suc m) v p a D x y z e = absurd (lt_irrefl 0 (subst (λ (i : ℕ). 0 < i) (e ∙ ap (λ (i : ℕ). i * D) z ∙ nothing D) (mul-pos (mul-pos (zero-lt-suc m) y) x)))
        where
          nothing : (D : ℕ) → 0 * D ≡ 0
          nothing D = omega arith

  pub only_nearest : (x : Float) → T (fits binary64 x) → minus_zero x ≡ false → Nearest s n x → x ≡ nearest s n
  unfolding minus_zero
  only_nearest nan F z h = absurd h.is_finite
  only_nearest (inf t) F z h = absurd h.is_finite
  only_nearest (fin true m e) F z h =
      absurd (true≢false (sym (eq-eqb m 0 (not-below m e (units (exponent (to_bits binary64 (fin true m e))) (fraction (to_bits binary64 (fin true m e)))) (value (fin true m e) F tt) (nearer_or_same (fin true m e) F h))) ∙ z))
  only_nearest (fin false m e) F z h =
      let x = fin false m e in
      let a = units (exponent (to_bits binary64 x)) (fraction (to_bits binary64 x)) in
      let v : Equals x a P = value x F tt in
      let r = no_farther (distance s n x) (down e) (apart (a * s) N) (down_pos e) (distance_ge s n x a P v) (nearer_or_same x F h) in
      one_double x (nearest s n) g F (round-fits binary64 false n s) (refl, subst (λ (i : ℕ). Equals x i P) (same_units (exponent (to_bits binary64 x)) (fraction (to_bits binary64 x)) (mask_lt (to_bits binary64 x) 52) r) v) own_value
