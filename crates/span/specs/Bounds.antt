-- A point followed through the operations, as a fraction of natural numbers, and what it says of the ends: so a caller bounds what
-- it has computed, from the promises of the operations and the widths alone. Assumes nothing.
use Rattle.std.specs.Prelude.{◌≡◌, ℕ, ◌*◌, ◌-◌, ◌^◌, ◌≤◌, ◌<◌}
use Rattle.std.proofs.Common.{ap, mul-le-mul_right, arith}
use Rattle.exact.specs.Fraction.{Frac, ◌⊑◌, Positive, ◌⊠◌, inverse}
use Rattle.exact.proofs.laws.Frac.{⊑_trans}
use Rattle.exact.specs.Bracket.{Bracket}
use Rattle.exact.specs.Holding.{◌∈◌}
use Rattle.span.specs.declared.Span.{Span}
use Rattle.span.specs.Spans.{unit, unit_positive, units, hull, whole_f, fraction, Normal, Rel, Width, Whole, Product, Quotient}

pub same_in : {x y : Frac} {K : Bracket} → x ⊑ y → y ⊑ x → x ∈ K → y ∈ K
same_in h k m = record { above = ⊑_trans m.above h; below = ⊑_trans k m.below }

-- a fraction in other terms, n/d = m/e
pub fraction_in : (n d m e : ℕ) (z : 0 < d) (y : 0 < e) {K : Bracket} → n * e ≡ m * d → fraction n d z ∈ K → fraction m e y ∈ K
unfolding fraction
fraction_in n d m e z y h k = same_in {x = fraction n d z} (record { cross = omega arith }) (record { cross = omega arith }) k

pub whole_at : {m : ℕ} {r : Span} (z : 0 < 1) → Whole m r → fraction m 1 z ∈ hull r
unfolding fraction whole_f
whole_at {m} z w = same_in {x = whole_f m} (record { cross = omega arith }) (record { cross = omega arith }) w.holds

-- the ends themselves
pub lower_end : (a : Span) → Normal a → fraction (a.lo * 2 ^ a.e) unit unit_positive ∈ hull a
unfolding hull units fraction
lower_end a n = record { above = record { cross = omega arith }; below = record { cross = omega (arith, mul-le-mul_right unit (mul-le-mul_right (2 ^ a.e) n.ordered)) } }

pub upper_end : (a : Span) → Normal a → fraction (a.hi * 2 ^ a.e) unit unit_positive ∈ hull a
unfolding hull units fraction
upper_end a n = record { above = record { cross = omega (arith, mul-le-mul_right unit (mul-le-mul_right (2 ^ a.e) n.ordered)) }; below = record { cross = omega arith } }

pub product_at : {a b r : Span} (n d m e : ℕ) (z : 0 < d) (y : 0 < e) (w : 0 < d * e) → Product a b r
    → fraction n d z ∈ hull a → fraction m e y ∈ hull b → fraction (n * m) (d * e) w ∈ hull r
unfolding fraction ◌⊠◌
product_at n d m e z y w p h k =
    same_in {x = fraction n d z ⊠ fraction m e y} (record { cross = omega arith }) (record { cross = omega arith }) (p.holds _ _ h k)

pub quotient_at : {a b r : Span} (n d m e : ℕ) (z : 0 < d) (y : 0 < e) (w : 0 < d * m) → 0 < m → Quotient a b r
    → fraction n d z ∈ hull a → fraction m e y ∈ hull b → fraction (n * e) (d * m) w ∈ hull r
unfolding fraction ◌⊠◌ inverse
quotient_at n d m e z y w s q h k =
    let pos : Positive (fraction m e y) = record { above = s } in
    let same : m - 0 ≡ m = omega arith in
    same_in {x = fraction n d z ⊠ inverse (fraction m e y) pos}
    (record { cross = omega (arith, ap (λ (i : ℕ). i * (n * e * d)) same) }) (record { cross = omega (arith, ap (λ (i : ℕ). i * (n * e * d)) same) })
    (q.holds _ _ h k pos)

-- what a point says of the ends, in units
pub record Held (a : Span) (n d : ℕ) : Type 0 where
  pub below : a.lo * 2 ^ a.e * d ≤ n * unit
  pub above : n * unit ≤ a.hi * 2 ^ a.e * d

pub held : {a : Span} (n d : ℕ) (z : 0 < d) → fraction n d z ∈ hull a → Held a n d
unfolding hull units fraction
held n d z h = record { below = omega (arith, h.above.cross); above = omega (arith, h.below.cross) }

-- the width, in units
pub value_width : (a : Span) {D : ℕ} → Width a D → Rel (a.lo * 2 ^ a.e) (a.hi * 2 ^ a.e) D
value_width a {D} w = record { narrow = omega (arith, mul-le-mul_right (2 ^ a.e) w.narrow) }
