-- For the callers: whole numbers as the last ends. They hold what the span holds, and a narrow span makes them close. Assumes nothing.
use Rattle.std.specs.Prelude.{ℕ, ◌+◌, ◌*◌, ◌-◌, ◌^◌, ◌≤◌, ◌<◌, ◌≡◌, false}
use Rattle.std.proofs.Math.Nat.{mul-sub, mul-lt-mul_of_pos_left}
use Rattle.std.proofs.Common.{mul-le-mul_left, mul-le-mul_right, le_of_mul-le-mul_right, lt_of_mul-lt-mul_right, arith, ltb-false}
use Rattle.exact.specs.Bracket.{Bracket}
use Rattle.exact.specs.laws.Pairs.{◌⊆◌}
use Rattle.exact.specs.Formula.{Formula, bracket_at}
use Rattle.exact.proofs.laws.Containment.{contains_holds, inside_wider}
use Rattle.exact.specs.Holding.{Holds}
use Rattle.span.specs.declared.Span.{Span}
use Rattle.span.specs.Spans.{unit, unit_positive, units, hull, whole_f, Width, Floor, Ceiling, below}
use Rattle.span.specs.Enclosing.{Encloses}

abbrev pub wholes : ℕ → ℕ → Bracket
wholes l u = record { lo = whole_f l; hi = whole_f u }

pub around : {a : Span} {l u : ℕ} → Floor a l → Ceiling a u → hull a ⊆ wholes l u
unfolding hull units whole_f
around f c = record { above = record { cross = omega (arith, f.below) }; below = record { cross = omega (arith, c.above) } }

pub wholes_hold : {a : Span} {l u : ℕ} {x : Formula} {n : ℕ} → 1 ≤ n → Floor a l → Ceiling a u → Encloses a x n → Holds (wholes l u) x
wholes_hold {x = x} {n = n} o f c h = contains_holds x n o _ (inside_wider (bracket_at x n) (around f c) h.inside)

-- the whole numbers around two spans overlap where neither span lies wholly below the other
pub wholes_overlap : {a b : Span} {l u : ℕ} → below a b ≡ false → Ceiling a u → Floor b l → l ≤ u
unfolding below
wholes_overlap {a} {b} n c f = le_of_mul-le-mul_right {k = unit} (omega (arith, f.below, ltb-false (a.hi * 2 ^ a.e) (b.lo * 2 ^ b.e) n, c.above)) unit_positive

-- Whole numbers around a span whose width is no more than one part in m + 1 lie at most 2 and an m-th of the lower one apart

-- all in units: L and H are the ends of a span, U one
apart : (m D l u L H U : ℕ) → (m + 1) * D ≤ 2 ^ 30 → L < l * U + U → u * U < H + U → H * 2 ^ 30 ≤ L * 2 ^ 30 + D * H → m * (u - l) ≤ 2 * m + l
apart m D l u L H U small l1 u1 w =
    let share : m * H ≤ (m + 1) * L = omega (arith, mul-le-mul_right (m + 1) w, mul-le-mul_right H small) in
    let lower : (m + 1) * L < (m + 1) * (l * U + U) = mul-lt-mul_of_pos_left l1 (omega arith) in
    let upper : m * (u * U) ≤ m * (H + U) = mul-le-mul_left m (omega arith) in
    let near : m * u < 2 * m + 1 + (m + 1) * l = lt_of_mul-lt-mul_right U (omega (arith, share, lower, upper)) in
    rw mul-sub (omega (arith, near))

pub wholes_apart : {a : Span} {l u D : ℕ} (m : ℕ) → Floor a l → Ceiling a u → Width a D → (m + 1) * D ≤ 2 ^ 30 → m * (u - l) ≤ 2 * m + l
wholes_apart {a} {l} {u} {D} m f c w d =
    let A = 2 ^ a.e in
    apart m D l u (a.lo * A) (a.hi * A) unit d f.near c.near (omega (arith, mul-le-mul_right A w.narrow))
