-- For the callers: what an operation promises of the points is lifted to the n-th brackets of formulas, one lemma for each operation;
-- constants, widths and sizes. A proof about a formula is then a term of the formula's shape. Assumes nothing.
use Rattle.std.specs.Prelude.{◌≡◌, ℕ, suc, ◌+◌, ◌*◌, ◌^◌, ◌≤◌, pos, negsuc}
use Rattle.std.proofs.Common.{ap, mul-le-mul_right, le_of_mul-le-mul_right, arith}
use Rattle.exact.specs.Fraction.{neg, Ratio, Frac, ◌⊑◌, of_ratio}
use Rattle.exact.proofs.laws.Frac.{⊑_trans, ⊠-comm}
use Rattle.exact.specs.Formula.{Formula, const, add, sub, mul, bracket_at}
use Rattle.exact.proofs.laws.Containment.{contains_holds}
use Rattle.exact.proofs.laws.Inclusion.{binary_inside, const_inside}
use Rattle.exact.proofs.laws.Points.{point_inside}
use Rattle.exact.specs.Holding.{Holds}
use Rattle.fixed.specs.declared.Log.{Log}
use Rattle.fixed.specs.FloorAndCeiling.{up, dn}
use Rattle.fixed.specs.Logs.{fixed, bracket, Narrow, Small, LogEncloses}
use Rattle.fixed.specs.Promises.{LogConstant, LogSum, LogDifference, LogProduct, Value, Scaled}

-- Constants

-- from the ends, beside c times 2^30; for a literal every premise is `omega arith`
constant : (c : Frac) (r : Log) → up r.lo * c.den + c.minus * 2 ^ 30 ≤ c.plus * 2 ^ 30 + dn r.lo * c.den
    → c.plus * 2 ^ 30 + dn r.hi * c.den ≤ up r.hi * c.den + c.minus * 2 ^ 30
    → up r.lo + dn r.hi ≤ up r.hi + dn r.lo → up r.hi + dn r.lo ≤ up r.lo + dn r.hi + 1 → LogConstant c r
unfolding bracket fixed
constant c r l h o w =
    record {
      ordered = record { ordered = o };
      holds = record { above = record { cross = omega (arith, l) }; below = record { cross = omega (arith, h) } };
      width = record { narrow = w };
    }

-- q from 0 up, in an interval from lo to hi
pub positive_constant : (q : Ratio) (lo hi : ℕ) → lo * q.den ≤ q.num * 2 ^ 30 → q.num * 2 ^ 30 ≤ hi * q.den → lo ≤ hi → hi ≤ lo + 1
    → LogConstant (of_ratio q) (record { lo = pos lo; hi = pos hi })
unfolding of_ratio
positive_constant q lo hi l h o w = constant (of_ratio q) _ (omega arith) (omega arith) (omega arith) (omega arith)

-- minus q, in an interval from -(lo + 1) to -(hi + 1)
pub negative_constant : (q : Ratio) (lo hi : ℕ) → q.num * 2 ^ 30 ≤ suc lo * q.den → suc hi * q.den ≤ q.num * 2 ^ 30 → hi ≤ lo → lo ≤ hi + 1
    → LogConstant (neg (of_ratio q)) (record { lo = negsuc lo; hi = negsuc hi })
unfolding of_ratio neg
negative_constant q lo hi l h o w = constant (neg (of_ratio q)) _ (omega arith) (omega arith) (omega arith) (omega arith)

pub constant_encloses : {c : Frac} {r : Log} → LogConstant c r → (n : ℕ) → LogEncloses r (const c) n
constant_encloses {c} {r} k n = record { inside = const_inside c n (bracket r) k.holds }

-- Operations

pub sum_encloses : {a b r : Log} {x y : Formula} {n : ℕ} → LogSum a b r → LogEncloses a x n → LogEncloses b y n → LogEncloses r (add x y) n
unfolding bracket_at
sum_encloses {x = x} {y = y} {n = n} s h k = record { inside = binary_inside x y n h.inside k.inside s.holds }

pub difference_encloses : {a b r : Log} {x y : Formula} {n : ℕ} → LogDifference a b r → LogEncloses a x n → LogEncloses b y n
    → LogEncloses r (sub x y) n
unfolding bracket_at
difference_encloses {x = x} {y = y} {n = n} s h k = record { inside = binary_inside x y n h.inside k.inside s.holds }

pub product_encloses : {a b r : Log} {x y : Formula} {n : ℕ} → LogProduct a b r → LogEncloses a x n → LogEncloses b y n
    → LogEncloses r (mul x y) n
unfolding bracket_at
product_encloses {x = x} {y = y} {n = n} s h k = record { inside = binary_inside x y n h.inside k.inside s.holds }

-- Multiples

-- a fraction that is no less and no more than c has its value
held : (c : Frac) (p d : ℕ) → Value c p d → (u : Frac) → c ⊑ u → u ⊑ c → Value u p d
held c p d e u l h =
    let scaled = ap (λ i. i * u.den) e.equal in
    let most : u.plus * d ≤ p * u.den + u.minus * d = le_of_mul-le-mul_right {k = c.den} (omega (arith, mul-le-mul_right d h.cross, scaled)) c.positive in
    let least : p * u.den + u.minus * d ≤ u.plus * d = le_of_mul-le-mul_right {k = c.den} (omega (arith, mul-le-mul_right d l.cross, scaled)) c.positive in
    record { equal = omega arith }

pub scaled_encloses : {p d : ℕ} {a r : Log} {c : Frac} {x : Formula} {n : ℕ} → Scaled p d a r → Value c p d → LogEncloses a x n
    → LogEncloses r (mul (const c) x) n
unfolding bracket_at
scaled_encloses {p} {d} {c = c} {x = x} {n = n} s e h =
    record {
      inside =
          binary_inside (const c) x n (point_inside c n) h.inside
          λ u q i j. s.holds u q (held c p d e u i.above i.below) j;
    }

-- the constant behind
pub scaled_encloses_right : {p d : ℕ} {a r : Log} {c : Frac} {x : Formula} {n : ℕ} → Scaled p d a r → Value c p d → LogEncloses a x n
    → LogEncloses r (mul x (const c)) n
unfolding bracket_at
scaled_encloses_right {p} {d} {c = c} {x = x} {n = n} s e h =
    record {
      inside =
          binary_inside x (const c) n h.inside (point_inside c n)
          λ q u j i.
          let m = s.holds u q (held c p d e u i.above i.below) j in
          record { above = ⊑_trans m.above (⊠-comm u q); below = ⊑_trans (⊠-comm q u) m.below };
    }

-- the value of a fraction from 0 up
pub ratio_value : (c : Ratio) (p d : ℕ) → c.num * d ≡ p * c.den → Value (of_ratio c) p d
unfolding of_ratio
ratio_value c p d e = record { equal = omega (arith, e) }

-- At the end: an interval that contains one bracket holds the exact value

pub encloses_holds : {r : Log} {x : Formula} {n : ℕ} → 1 ≤ n → LogEncloses r x n → Holds (bracket r) x
encloses_holds {r} {x} {n} o h = contains_holds x n o (bracket r) h.inside

-- Widths and sizes

pub wider : {r : Log} {C D : ℕ} → C ≤ D → Narrow r C → Narrow r D
wider l w = record { narrow = omega (arith, l, w.narrow) }

pub larger : {r : Log} {M N : ℕ} → M ≤ N → Small r M → Small r N
larger l s = omega arith
