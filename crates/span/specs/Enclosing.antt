-- For the callers: what an operation promises of the points is lifted to the N-th brackets of formulas, one lemma for each
-- operation, and widths compose. A proof about a formula is then a term of the formula's shape. Assumes nothing.
use Rattle.std.proofs.Math.Option.{some}
use Rattle.std.specs.Prelude.{ℕ, ◌*◌, ◌^◌, ◌≤◌, ◌<◌, ◌≡◌, true}
use Rattle.std.proofs.Common.{mul-le-mul_right, mul-lt-mul_of_pos_right, arith, ltb-true}
use Rattle.exact.specs.Fraction.{Frac}
use Rattle.exact.specs.Formula.{Formula, const, add, sub, mul, div, least, bracket_at}
use Rattle.exact.proofs.laws.Meeting.{meeting}
use Rattle.exact.specs.laws.Containment.{Inside}
use Rattle.exact.proofs.laws.Containment.{contains_holds}
use Rattle.exact.proofs.laws.Inclusion.{binary_inside, binary_quotient, const_inside}
use Rattle.exact.specs.Holding.{Holds}
use Rattle.exact.specs.Smaller.{IsSmaller}
use Rattle.exact.proofs.laws.Smaller.{smaller_inside}
use Rattle.span.specs.declared.Span.{Span}
use Rattle.span.specs.Spans.{unit, unit_positive, units, hull, whole_f, fraction, Normal, Rel, Width, Whole, FractionOf, Constant, Product, Quotient, Sum, Difference, Smaller, below}

-- the span a contains the n-th bracket of x
pub record Encloses (a : Span) (x : Formula) (n : ℕ) : Type 0 where
  pub inside : Inside (bracket_at x n) (some (hull a))

pub constant_encloses : {c : Frac} {e : ℕ} {r : Span} → Constant c e r → (n : ℕ) → Encloses r (const c) n
constant_encloses {c} {e} {r} k n = record { inside = const_inside c n (hull r) k.holds }

pub whole_encloses : {m : ℕ} {r : Span} → Whole m r → (n : ℕ) → Encloses r (const (whole_f m)) n
whole_encloses {m} {r} k n = record { inside = const_inside (whole_f m) n (hull r) k.holds }

pub fraction_encloses : {m d : ℕ} {r : Span} → FractionOf m d r → (z : 0 < d) (n : ℕ) → Encloses r (const (fraction m d z)) n
fraction_encloses {m} {d} {r} k z n = record { inside = const_inside (fraction m d z) n (hull r) (k.holds z) }

pub product_encloses : {a b r : Span} {x y : Formula} {n : ℕ} → Product a b r → Encloses a x n → Encloses b y n → Encloses r (mul x y) n
unfolding bracket_at
product_encloses {x = x} {y = y} {n = n} p h k = record { inside = binary_inside x y n h.inside k.inside p.holds }

pub sum_encloses : {a b r : Span} {x y : Formula} {n : ℕ} → Sum a b r → Encloses a x n → Encloses b y n → Encloses r (add x y) n
unfolding bracket_at
sum_encloses {x = x} {y = y} {n = n} s h k = record { inside = binary_inside x y n h.inside k.inside s.holds }

pub difference_encloses : {a b r : Span} {x y : Formula} {n : ℕ} → Difference a b r → Encloses a x n → Encloses b y n → Encloses r (sub x y) n
unfolding bracket_at
difference_encloses {x = x} {y = y} {n = n} s h k = record { inside = binary_inside x y n h.inside k.inside s.holds }

pub smaller_encloses : {a b r : Span} {x y : Formula} {n : ℕ} → Smaller a b r → Encloses a x n → Encloses b y n → Encloses r (least x y) n
unfolding bracket_at
smaller_encloses {x = x} {y = y} {n = n} s h k = record { inside = binary_inside x y n h.inside k.inside s.holds }

pub quotient_encloses : {a b r : Span} {x y : Formula} {n : ℕ} → Quotient a b r → Encloses a x n → Encloses b y n → Encloses r (div x y) n
unfolding bracket_at
quotient_encloses {x = x} {y = y} {n = n} q h k =
    record { inside = binary_quotient (bracket_at x n) (bracket_at y n) (meeting x n n) (meeting y n n) h.inside k.inside q.divisor q.holds }

-- two spans apart: of what they enclose the one is the smaller
pub below_smaller : {a b : Span} {x y : Formula} {n : ℕ} → 1 ≤ n → below a b ≡ true → Encloses a x n → Encloses b y n → IsSmaller x y
unfolding below hull units
below_smaller {a} {b} {x} {y} {n} o l h k =
    let less = ltb-true (a.hi * 2 ^ a.e) (b.lo * 2 ^ b.e) l in
    let more = mul-lt-mul_of_pos_right {k = unit} less unit_positive in
    smaller_inside x y n o (hull a) (hull b) h.inside k.inside (record { less = λ m. absurd (omega (arith, more, m.cross)) })

-- at the end: a span that contains one bracket holds the exact value
pub encloses_holds : {a : Span} {x : Formula} {n : ℕ} → 1 ≤ n → Encloses a x n → Holds (hull a) x
encloses_holds {a} {x} {n} o h = contains_holds x n o (hull a) h.inside

-- Widths

pub wider : {lo hi C D : ℕ} → C ≤ D → Rel lo hi C → Rel lo hi D
wider {lo} {hi} l w = record { narrow = omega (arith, mul-le-mul_right hi l, w.narrow) }

-- a span that is narrow enough is far from 0: what a divisor has to be
pub divisor : {a : Span} {D : ℕ} → Normal a → Width a D → D ≤ 2 ^ 28 → 2 ^ 29 ≤ a.lo
divisor {a} {D} n w l = omega (arith, mul-le-mul_right a.hi l)
