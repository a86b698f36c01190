-- Laws of signed numbers by their two parts: each is by the signs, and then linear arithmetic on ℕ. Assumes nothing.
use Rattle.std.specs.Prelude.{◌≡◌, refl, Bool, true, false, cond, ℕ, zero, suc, ◌+◌, ◌-◌, ◌*◌, ◌/◌, ◌≤◌, ◌<◌, ltb, ℤ, pos, negsuc, neg_ℤ, ◌+ℤ◌, ◌-ℤ◌, ◌*ℤ◌}
use Rattle.std.proofs.Common.{sym, ap, ◌∙◌, zero-mul, div-mul-le_self, suc-mul, arith, ltb-true, ltb-false}
use Rattle.std.proofs.Math.Nat.{lt-div-mul-add}
use Rattle.std.proofs.Math.IntN.{sub_ℕ}
use Rattle.std.specs.Int.Signed.{lt_z}
use Rattle.signed.specs.Comparisons.{less, not-less}
use Rattle.fixed.specs.FloorAndCeiling.{up, dn, floor_z, ceil_z, min_z}

-- one of the parts is 0, so that each is at most what the number is said to be the difference of
pub least : (z : ℤ) {a b : ℕ} → up z + b ≡ dn z + a → (up z ≤ a) × (dn z ≤ b)
least (pos n) e = (omega arith, omega arith)
least (negsuc n) e = (omega arith, omega arith)

pub one_sided : (z : ℤ) {N : ℕ} → up z ≤ dn z + N → dn z ≤ up z + N → (up z ≤ N) × (dn z ≤ N)
one_sided (pos n) h k = (omega arith, omega arith)
one_sided (negsuc n) h k = (omega arith, omega arith)

-- Opposites

pub neg_up : (x : ℤ) → up (neg_ℤ x) ≡ dn x
neg_up (pos zero) = refl
neg_up (pos (suc a)) = refl
neg_up (negsuc a) = refl

pub neg_dn : (x : ℤ) → dn (neg_ℤ x) ≡ up x
neg_dn (pos zero) = refl
neg_dn (pos (suc a)) = refl
neg_dn (negsuc a) = refl

-- Sums and differences

-- a - b as its parts
chosen : (t : Bool) (a b : ℕ) → ltb a b ≡ t → let z = cond t (negsuc (b - suc a)) (pos (a - b)) in up z + b ≡ dn z + a
chosen true a b e = omega (arith, ltb-true a b e)
chosen false a b e = omega (arith, ltb-false a b e)

sub_parts : (a b : ℕ) → up (sub_ℕ a b) + b ≡ dn (sub_ℕ a b) + a
sub_parts a b = chosen (ltb a b) a b refl

pub plus_parts : (x y : ℤ) → up (x +ℤ y) + (dn x + dn y) ≡ dn (x +ℤ y) + (up x + up y)
plus_parts (pos a) (pos b) = omega arith
plus_parts (pos a) (negsuc b) = omega (arith, sub_parts a (suc b))
plus_parts (negsuc a) (pos b) = omega (arith, sub_parts b (suc a))
plus_parts (negsuc a) (negsuc b) = omega arith

pub minus_parts : (x y : ℤ) → up (x -ℤ y) + (dn x + up y) ≡ dn (x -ℤ y) + (up x + dn y)
minus_parts x y = omega (arith, plus_parts x (neg_ℤ y), neg_up y, neg_dn y)

-- Products

pub times_parts : (x y : ℤ) → up (x *ℤ y) + (up x * dn y + dn x * up y) ≡ dn (x *ℤ y) + (up x * up y + dn x * dn y)
times_parts (pos a) (pos b) = omega arith
times_parts (pos a) (negsuc b) = omega (arith, neg_up (pos (a * suc b)), neg_dn (pos (a * suc b)))
times_parts (negsuc a) (pos b) = omega (arith, neg_up (pos (suc a * b)), neg_dn (pos (suc a * b)))
times_parts (negsuc a) (negsuc b) = omega arith

-- by a natural number
pub multiple_up : (x : ℤ) (k : ℕ) → up (x *ℤ pos k) ≡ up x * k
multiple_up (pos a) k = refl
multiple_up (negsuc a) k = neg_up (pos (suc a * k)) ∙ sym (zero-mul k)

pub multiple_dn : (x : ℤ) (k : ℕ) → dn (x *ℤ pos k) ≡ dn x * k
multiple_dn (pos a) k = sym (zero-mul k)
multiple_dn (negsuc a) k = neg_dn (pos (suc a * k))

-- Quotients: r is x / d rounded downward, r d ≤ x < r d + d

pub record Floor (x : ℤ) (d : ℕ) (r : ℤ) : Type 0 where
  pub low : up r * d + dn x ≤ up x + dn r * d
  pub high : up x + dn r * d < up r * d + dn x + d

pub floor_parts : (x : ℤ) (d : ℕ) → 0 < d → Floor x d (floor_z x d)
floor_parts (pos a) d h =
    let least = div-mul-le_self a d in
    let most = lt-div-mul-add {a = a} {b = d} h in
    let none : 0 * d ≡ 0 = zero-mul d in
    record { low = omega arith; high = omega arith }
floor_parts (negsuc a) d h =
    let least = div-mul-le_self a d in
    let most = lt-div-mul-add {a = a} {b = d} h in
    let none : 0 * d ≡ 0 = zero-mul d in
    let more : suc (a / d) * d ≡ a / d * d + d = suc-mul (a / d) d in
    record { low = omega arith; high = omega arith }

-- and upward, x ≤ r d < x + d

pub record Ceil (x : ℤ) (d : ℕ) (r : ℤ) : Type 0 where
  pub high : up x + dn r * d ≤ up r * d + dn x
  pub low : up r * d + dn x < up x + dn r * d + d

pub ceil_parts : (x : ℤ) (d : ℕ) → 0 < d → Ceil x d (ceil_z x d)
ceil_parts x d h =
    let f = floor_parts (neg_ℤ x) d h in
    let u = ap (λ i. i * d) (neg_up (floor_z (neg_ℤ x) d)) in
    let v = ap (λ i. i * d) (neg_dn (floor_z (neg_ℤ x) d)) in
    record { high = omega (arith, f.low, u, v, neg_up x, neg_dn x); low = omega (arith, f.high, u, v, neg_up x, neg_dn x) }

-- The smaller of two

pub record AtMost (x y : ℤ) : Type 0 where
  pub le : up x + dn y ≤ up y + dn x

chosen_of : (P : ℤ → Type 0) (t : Bool) {x y : ℤ} → P x → P y → P (cond t x y)
chosen_of P true p q = p
chosen_of P false p q = q

pub min_of : (P : ℤ → Type 0) {x y : ℤ} → P x → P y → P (min_z x y)
min_of P {x} {y} p q = chosen_of P (lt_z x y) p q

chosen_left : (t : Bool) (x y : ℤ) → lt_z x y ≡ t → AtMost (cond t x y) x
chosen_left true x y e = record { le = omega arith }
chosen_left false x y e = record { le = not-less x y e }

chosen_right : (t : Bool) (x y : ℤ) → lt_z x y ≡ t → AtMost (cond t x y) y
chosen_right true x y e = record { le = omega (arith, less x y e) }
chosen_right false x y e = record { le = omega arith }

pub min_left : (x y : ℤ) → AtMost (min_z x y) x
min_left x y = chosen_left (lt_z x y) x y refl

pub min_right : (x y : ℤ) → AtMost (min_z x y) y
min_right x y = chosen_right (lt_z x y) x y refl
