-- How far a double lies from n / s, in units of 1 / p, and distances compared. Assumes nothing.
use Rattle.std.specs.Prelude.{◌≡◌, refl, ℕ, ◌+◌, ◌*◌, ◌≤◌, ◌<◌, ℤ, Float}
use Rattle.std.proofs.Math.Path.{sym, ap}
use Rattle.std.proofs.Common.{◌∙◌, true≢false, le_trans, le_of_eq, mul-le-mul_right, le_of_mul-le-mul_right, arith}
use Rattle.std.proofs.Math.Bool.{true, false}
use Rattle.std.specs.Float.Ieee.{nan, up, down}
use Rattle.std.specs.Float.{inf, fin}
use Rattle.std.specs.Float.Ieee.Digits.{Equals}
use Rattle.std.specs.Float.Ieee.Exact.{HasValue}
use Rattle.std.specs.Float.Ieee.Positive.{den}
use Rattle.doubles.specs.Doubles.{distance}
use Rattle.doubles.specs.laws.Closest.{apart, apart_mul}

module _ (s n : ℕ) where
  -- of a double that is not below zero
  pub distance_is : (x : Float) (a p : ℕ) → HasValue x false a p → distance s n x * p ≡ apart (a * s) (n * p) * den x
  unfolding distance
  distance_is nan a p h = absurd h
  distance_is (inf t) a p h = absurd h
  distance_is (fin true m e) a p h = absurd (true≢false h.0)
  distance_is (fin false m e) a p h =
      apart_mul (m * up e * s) (n * down e) p
      ∙ ap (λ (i : ℕ). apart i (n * down e * p)) (turn (m * up e) (down e) h.1)
      ∙ ap (λ (i : ℕ). apart (a * s * down e) i) (swap (down e))
      ∙ sym (apart_mul (a * s) (n * p) (down e))
    where
      turn : (M D : ℕ) → M * p ≡ a * D → M * s * p ≡ a * s * D
      turn M D v = omega (arith, ap (λ (i : ℕ). i * s) v)

      swap : (D : ℕ) → n * D * p ≡ n * p * D
      swap D = omega arith

  pub distance_below : (m : ℕ) (e : ℤ) (a p : ℕ) → m * up e * p ≡ a * down e → distance s n (fin true m e) * p ≡ (a * s + n * p) * down e
  unfolding distance
  distance_below m e a p h = go (m * up e) (down e) h
    where
      go : (M D : ℕ) → M * p ≡ a * D → (M * s + n * D) * p ≡ (a * s + n * p) * D
      go M D v = omega (arith, ap (λ (i : ℕ). i * s) v)

  -- of any double
  pub distance_ge : (x : Float) (a p : ℕ) → Equals x a p → apart (a * s) (n * p) * den x ≤ distance s n x * p
  distance_ge nan a p h = absurd h
  distance_ge (inf t) a p h = absurd h
  distance_ge (fin false m e) a p h = le_of_eq (sym (distance_is (fin false m e) a p (refl, h)))
  distance_ge (fin true m e) a p h = le_trans (mul-le-mul_right (down e) (sum (a * s) (n * p))) (le_of_eq (sym (distance_below m e a p h)))
    where
      sum : (i j : ℕ) → apart i j ≤ i + j
      sum i j = omega arith

-- dx / Dx is A / p, and dy / Dy is B / p or more
pub no_nearer : (dx dy Dx Dy A B p : ℕ) → 0 < p → dx * p ≡ A * Dx → B * Dy ≤ dy * p → A ≤ B → dx * Dy ≤ dy * Dx
no_nearer dx dy Dx Dy A B p h e l m =
    le_of_mul-le-mul_right {k = p} (omega (arith, ap (λ (i : ℕ). i * Dy) e, mul-le-mul_right Dx l, mul-le-mul_right (Dx * Dy) m)) h

pub as_near : (dx dy Dx Dy A B p : ℕ) → 0 < Dx * Dy → dx * p ≡ A * Dx → B * Dy ≤ dy * p → dy * Dx ≤ dx * Dy → B ≤ A
as_near dx dy Dx Dy A B p h e l m =
    le_of_mul-le-mul_right {k = Dx * Dy} (omega (arith, ap (λ (i : ℕ). i * Dy) e, mul-le-mul_right Dx l, mul-le-mul_right p m)) h
