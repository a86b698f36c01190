-- Natural numbers only: which multiple of a unit lies nearest to a number, and which odd multiples a power of two divides. Assumes nothing.
use Rattle.std.specs.Prelude.{◌≡◌, refl, ◌⊎◌, Bool, true, false, not, ℕ, zero, suc, ◌+◌, ◌-◌, ◌*◌, ◌/◌, ◌%◌, ◌^◌, ◌≤◌, ◌<◌, T, ltb}
use Rattle.std.proofs.Common.{sym, ap, ◌∙◌, subst, inl, inr, eq-or-lt_of_le, mul-le-mul_right, mul_comm, arith, ltb→lt, nltb→le}
use Rattle.std.proofs.Math.Nat.{mul-sub, pow-succ'}

-- |a − b|
abbrev pub apart : ℕ → ℕ → ℕ
apart a b = (a - b) + (b - a)

sub-mul : (a b k : ℕ) → (a - b) * k ≡ a * k - b * k
sub-mul a b k = mul_comm (a - b) k ∙ mul-sub k a b ∙ ap (λ (i : ℕ). i - k * b) (mul_comm k a) ∙ ap (λ (i : ℕ). a * k - i) (mul_comm k b)

pub apart_mul : (a b k : ℕ) → apart a b * k ≡ apart (a * k) (b * k)
apart_mul a b k = omega (arith, sub-mul a b k, sub-mul b a k)

pub less_or_more : (i a : ℕ) → (i < a) ⊎ (a ≤ i)
less_or_more i a = go (ltb i a) (ltb→lt i a) (nltb→le i a)
  where
    go : (t : Bool) → (T t → i < a) → (T (not t) → a ≤ i) → (i < a) ⊎ (a ≤ i)
    go true h k = inl (h tt)
    go false h k = inr (k tt)

-- q multiples of u are within half of u of N
module _ (q u N : ℕ) (U : 0 < u) (under : 2 * (q * u) ≤ 2 * N + u) (over : 2 * N ≤ 2 * (q * u) + u) where
  -- no multiple is nearer
  pub best : (a : ℕ) → apart (q * u) N ≤ apart (a * u) N
  best a = elim (less_or_more a q) [
    | inl l ↦ let h : (a + 1) * u ≤ q * u = mul-le-mul_right u (step a q l) in omega arith
    | inr g ↦ elim (eq-or-lt_of_le g) [
      | inl e ↦ omega (arith, ap (λ (i : ℕ). i * u) e)
      | inr l ↦ let h : (q + 1) * u ≤ a * u = mul-le-mul_right u (step q a l) in omega arith
    ]
  ]
    where
      step : (i j : ℕ) → i < j → i + 1 ≤ j
      step i j h = omega arith

  -- another that is as near is a neighbour, and N lies midway
  pub rival : (a : ℕ) → apart (a * u) N ≤ apart (q * u) N → (a ≡ q) ⊎ ((o : ℕ) × (o % 2 ≡ 1) × (2 * N ≡ o * u))
  rival a r = elim (less_or_more a q) [
    | inl l ↦ inr (2 * a + 1, odd a, below l (mul-le-mul_right u (step a q l)))
    | inr g ↦ elim (eq-or-lt_of_le g) [
      | inl e ↦ inl (sym e)
      | inr l ↦ inr (2 * q + 1, odd q, above l (mul-le-mul_right u (step q a l)))
    ]
  ]
    where
      step : (i j : ℕ) → i < j → i + 1 ≤ j
      step i j h = omega arith

      odd : (i : ℕ) → (2 * i + 1) % 2 ≡ 1
      odd i = omega arith

      below : a < q → (a + 1) * u ≤ q * u → 2 * N ≡ (2 * a + 1) * u
      below l h = omega arith

      above : q < a → (q + 1) * u ≤ a * u → 2 * N ≡ (2 * q + 1) * u
      above l h = omega arith

-- an odd number times s that a power of two divides: the power divides s
even_or_odd : (O s c : ℕ) → O % 2 ≡ 1 → O * s ≡ 2 * c → s % 2 ≡ 0
even_or_odd O s c o h =
    let p : O ≡ 2 * (O / 2) + 1 = omega arith in
    let r : s ≡ 2 * (s / 2) + s % 2 = omega arith in
    go (O / 2) (s / 2) (s % 2) (bit s) (sym h ∙ ap (λ (i : ℕ). i * s) p ∙ ap (λ (i : ℕ). (2 * (O / 2) + 1) * i) r)
  where
    bit : (s : ℕ) → s % 2 < 2
    bit s = omega arith

    go : (p r b : ℕ) → b < 2 → 2 * c ≡ (2 * p + 1) * (2 * r + b) → b ≡ 0
    go p r zero l e = refl
    go p r (suc zero) l e = omega arith
    go p r (suc (suc b)) l e = omega arith

pub divides : (m O s c : ℕ) → O % 2 ≡ 1 → 0 < s → O * s ≡ c * 2 ^ m → 2 ^ m ≤ s
divides zero O s c o S h = S
divides (suc m) O s c o S h =
    let h' : O * s ≡ 2 * (c * 2 ^ m) = h ∙ ap (λ (i : ℕ). c * i) (pow-succ' 2 m) ∙ swap c (2 ^ m) in
    let e = even_or_odd O s (c * 2 ^ m) o h' in
    let r = divides m O (s / 2) c o (half s e S) (halves O s (c * 2 ^ m) e h') in
    subst (λ (i : ℕ). i ≤ s) (sym (pow-succ' 2 m)) (double s (2 ^ m) e r)
  where
    swap : (c p : ℕ) → c * (2 * p) ≡ 2 * (c * p)
    swap c p = omega arith

    half : (s : ℕ) → s % 2 ≡ 0 → 0 < s → 0 < s / 2
    half s e h = omega arith

    halves : (O s x : ℕ) → s % 2 ≡ 0 → O * s ≡ 2 * x → O * (s / 2) ≡ x
    halves O s x e h = let d : s ≡ 2 * (s / 2) = omega arith in omega (arith, ap (λ (i : ℕ). O * i) d)

    double : (s p : ℕ) → s % 2 ≡ 0 → p ≤ s / 2 → 2 * p ≤ s
    double s p e h = omega arith
