-- The one rounding lemma: an exact interval [lo, hi]·2^e whose upper mantissa has its highest set bit at k, shifted so that the
-- bit stands at 30, upward (`exact`) or downward (`cut`). Assumes nothing.
use mathlib.Core.Path.{◌≡◌}
use Prim.Native.Nat.{ℕ, suc, ◌+◌, ◌*◌, ◌/◌, ◌-◌, ◌^◌, ◌≤◌, ◌<◌}
use native.Mathlib.Nat.{lt_of_le_of_lt, mul-le-mul_right, mul-lt-mul_of_pos_right, le_of_mul-le-mul_right}
use native.Mathlib.Omega.{arith}
use lib.Pow.{pow_pos}
use Rattle.span.specs.Spans.{Rel}
use Rattle.span.specs.Rounding.{Rounded}
use Rattle.span.specs.Powers.{powers, shared, exponent_below, quotient, quotient_least, quotient_below, next}

-- what is cut off below 2^s is two units of an upper end from 2^30 up
cut_width : (L H P lo hi D : ℕ) → 0 < P → 2 ^ 30 ≤ H → hi ≤ H * P → H * P ≤ hi + P → lo ≤ L * P + P → Rel lo hi D → Rel L H (D + 2)
cut_width L H P lo hi D z low h0 h1 l1 w =
    record {
      narrow =
          le_of_mul-le-mul_right {k = P}
          (omega (arith, mul-le-mul_right D h0, mul-le-mul_right P low, w.narrow)) z;
    }

module _ (lo hi e k : ℕ) (ordered : lo ≤ hi) (least : 2 ^ k ≤ hi) (most : hi < 2 ^ suc k) where
  window_least : (f : ℕ) → f + 30 ≡ e + k → (j : ℕ) → 2 ^ j ≤ hi → e + j ≤ f + 30
  window_least f h j l = omega (arith, exponent_below j (suc k) (lt_of_le_of_lt l most))

  window_most : (f : ℕ) → f + 30 ≡ e + k → (j : ℕ) → hi < 2 ^ j → f + 31 ≤ e + j
  window_most f h j l = omega (arith, exponent_below k j (lt_of_le_of_lt least l))

  pub exact : (s : ℕ) → k + s ≡ 30 → s ≤ e → Rounded lo hi e (record { lo = lo * 2 ^ s; hi = hi * 2 ^ s; e = e - s })
  exact s h room =
      let low = mul-le-mul_right (2 ^ s) least in
      let high = mul-lt-mul_of_pos_right {k = 2 ^ s} most (pow_pos s) in
      let thirty = powers k s 30 h in
      let more = powers (suc k) s 31 (omega arith) in
      record {
        normal = record { least = omega arith; most = omega arith; ordered = mul-le-mul_right (2 ^ s) ordered };
        below = omega (arith, shared lo s (e - s) e (omega arith));
        lower_greatest = λ m l. le_of_mul-le-mul_right {k = 2 ^ (e - s)} (omega (arith, shared lo s (e - s) e (omega arith))) (pow_pos (e - s));
        above = omega (arith, shared hi s (e - s) e (omega arith));
        upper_least = λ m l. le_of_mul-le-mul_right {k = 2 ^ (e - s)} (omega (arith, shared hi s (e - s) e (omega arith))) (pow_pos (e - s));
        width = λ D w. record { narrow = omega (arith, mul-le-mul_right (2 ^ s) w.narrow) };
        least = window_least (e - s) (omega arith);
        most = window_most (e - s) (omega arith);
      }

  pub cut : (s : ℕ) → k ≡ 30 + s → Rounded lo hi e (record { lo = lo / 2 ^ s; hi = (hi - 1) / 2 ^ s + 1; e = e + s })
  cut s h =
      let P = 2 ^ s in
      let z : 0 < P = pow_pos s in
      let ql = quotient lo P z in
      let qh = quotient (hi - 1) P z in
      let up = next ((hi - 1) / P) P in
      let low = powers 30 s k (omega arith) in
      let some : 2 ^ 30 - 1 ≤ (hi - 1) / P = quotient_least (hi - 1) P (2 ^ 30 - 1) z (omega arith) in
      let high : (hi - 1) / P < 2 ^ 31 = quotient_below (hi - 1) P (2 ^ 31) z (omega (arith, powers 31 s (suc k) (omega arith))) in
      let top : hi ≤ ((hi - 1) / P + 1) * P = omega arith in
      let lower = scaled (lo / P) s in
      let upper = scaled ((hi - 1) / P + 1) s in
      record {
        normal = record { least = omega arith; most = omega arith; ordered = le_of_mul-le-mul_right {k = P} (omega arith) z };
        below = omega (arith, lower, mul-le-mul_right (2 ^ e) ql.0);
        lower_greatest = λ m l. quotient_least lo P m z (le_of_mul-le-mul_right {k = 2 ^ e} (omega (arith, scaled m s)) (pow_pos e));
        above = omega (arith, upper, mul-le-mul_right (2 ^ e) top);
        upper_least = λ m l.
            let most : hi ≤ m * P = le_of_mul-le-mul_right {k = 2 ^ e} (omega (arith, scaled m s)) (pow_pos e) in
            omega (arith, quotient_below (hi - 1) P m z (omega arith));
        width = λ D w. cut_width (lo / P) ((hi - 1) / P + 1) P lo hi D z (omega arith) (omega arith) (omega arith) (omega arith) w;
        least = window_least (e + s) (omega arith);
        most = window_most (e + s) (omega arith);
      }
    where
      scaled : (m s : ℕ) → m * 2 ^ s * 2 ^ e ≡ m * 2 ^ (e + s)
      scaled m s = shared m s e (e + s) (omega arith)
