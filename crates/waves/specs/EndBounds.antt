-- One-sided bounds of a span's ends by fractions n/d, and how the operations carry them: of a narrow span, a bound of either end
-- bounds both. Assumes nothing.
use Rattle.std.proofs.Math.Option.{Option, none, some}
use Rattle.std.specs.Prelude.{ℕ, ◌+◌, ◌*◌, ◌^◌, ◌≤◌, ◌<◌}
use Rattle.std.proofs.Common.{mul-pos, mul-le-mul, mul-le-mul_right, le_of_mul-le-mul_right, arith, pow_pos}
use Rattle.exact.specs.Fraction.{Ratio, of_ratio, ◌⊞◌, neg, ◌⊟◌, ◌⊑◌}
use Rattle.exact.specs.Bracket.{Bracket}
use Rattle.exact.specs.Formula.{Formula, bracket_at}
use Rattle.exact.proofs.laws.Frac.{⊑_trans, smaller_right}
use Rattle.exact.specs.laws.Containment.{Inside}
use Rattle.exact.proofs.laws.Meeting.{Meets, meeting}
use Rattle.exact.specs.Holding.{◌∈◌}
use Rattle.span.specs.declared.Span.{Span}
use Rattle.span.specs.Spans.{unit, unit_positive, units, hull, fraction, Normal, Rel, Width, Constant, Product, Quotient, Sum, Difference, Smaller}
use Rattle.span.specs.Enclosing.{Encloses}
use Rattle.span.specs.Bounds.{upper_end, product_at, quotient_at, held, value_width}
use Rattle.span.specs.Windows.{exponent_most, exponent_least, value_most}

-- the lower end is at most n/d
pub record LowerAtMost (a : Span) (n d : ℕ) : Type 0 where
  pub below : a.lo * 2 ^ a.e * d ≤ n * unit

-- the upper end is at least n/d
pub record UpperAtLeast (a : Span) (n d : ℕ) : Type 0 where
  pub above : n * unit ≤ a.hi * 2 ^ a.e * d

pub lower_end : (a : Span) → Normal a → fraction (a.lo * 2 ^ a.e) unit unit_positive ∈ hull a
unfolding hull units fraction
lower_end a n = record { above = record { cross = omega arith }; below = record { cross = omega (arith, mul-le-mul_right unit (mul-le-mul_right (2 ^ a.e) n.ordered)) } }

-- a coarser bound
pub lower_coarser : {a : Span} {n d m e : ℕ} → LowerAtMost a n d → 0 < d → n * e ≤ m * d → LowerAtMost a m e
lower_coarser {a} {n} {d} {m} {e} h z l =
    record { below = le_of_mul-le-mul_right {k = d} (omega (arith, mul-le-mul_right e h.below, mul-le-mul_right unit l)) z }

pub upper_coarser : {a : Span} {n d m e : ℕ} → UpperAtLeast a n d → 0 < d → m * d ≤ n * e → UpperAtLeast a m e
upper_coarser {a} {n} {d} {m} {e} h z l =
    record { above = le_of_mul-le-mul_right {k = d} (omega (arith, mul-le-mul_right e h.above, mul-le-mul_right unit l)) z }

-- the ends themselves
pub lower_itself : (a : Span) → LowerAtMost a (a.lo * 2 ^ a.e) unit
lower_itself a = record { below = omega arith }

pub upper_itself : (a : Span) → UpperAtLeast a (a.hi * 2 ^ a.e) unit
upper_itself a = record { above = omega arith }

-- a span whose exponent is at most that of 2^j
pub normal_lower : {a : Span} → Normal a → (j : ℕ) → a.e ≤ 993 + j → LowerAtMost a (2 ^ j) 1
normal_lower {a} m j h = record { below = omega (arith, value_most m j h, mul-le-mul_right (2 ^ a.e) m.ordered) }

-- a constant, by its number
pub constant_lower : (q : Ratio) {k : ℕ} {a : Span} → Constant (of_ratio q) k a → LowerAtMost a q.num q.den
unfolding of_ratio fraction
constant_lower q c = record { below = (held q.num q.den q.positive c.holds).below }

pub constant_upper : (q : Ratio) {k : ℕ} {a : Span} → Constant (of_ratio q) k a → UpperAtLeast a q.num q.den
unfolding of_ratio fraction
constant_upper q c = record { above = (held q.num q.den q.positive c.holds).above }

-- Over plain numbers: R, X and Y are ends in units U

times : (R X Y U n d m e : ℕ) → 0 < U → R * (U * U) ≤ X * Y * U → X * d ≤ n * U → Y * e ≤ m * U → R * (d * e) ≤ n * m * U
times R X Y U n d m e z h a b =
    le_of_mul-le-mul_right {k = U * U}
    (omega (arith, mul-le-mul_right (d * e) h, mul-le-mul_right U (mul-le-mul a b)))
    (mul-pos z z)

times_up : (R X Y U n d m e : ℕ) → 0 < U → X * Y * U ≤ R * (U * U) → n * U ≤ X * d → m * U ≤ Y * e → n * m * U ≤ R * (d * e)
times_up R X Y U n d m e z h a b =
    le_of_mul-le-mul_right {k = U * U}
    (omega (arith, mul-le-mul_right (d * e) h, mul-le-mul_right U (mul-le-mul a b)))
    (mul-pos z z)

divided : (R X Y U n d m e : ℕ) → 0 < U → R * (U * Y) ≤ X * U * U → X * d ≤ n * U → m * U ≤ Y * e → R * (d * m) ≤ n * e * U
divided R X Y U n d m e z h a b =
    le_of_mul-le-mul_right {k = U * U}
    (omega (arith, mul-le-mul_right (d * e) h, mul-le-mul_right (U * U * e) a, mul-le-mul_right (R * d * U) b))
    (mul-pos z z)

divided_up : (R X Y U n d m e : ℕ) → 0 < U → X * U * U ≤ R * (U * Y) → n * U ≤ X * d → Y * e ≤ m * U → n * e * U ≤ R * (d * m)
divided_up R X Y U n d m e z h a b =
    le_of_mul-le-mul_right {k = U * U}
    (omega (arith, mul-le-mul_right (d * e) h, mul-le-mul_right (U * U * e) a, mul-le-mul_right (R * d * U) b))
    (mul-pos z z)

added : (R X Y U n d m e : ℕ) → 0 < U → R * (U * U) ≤ (X * U + Y * U) * U → X * d ≤ n * U → Y * e ≤ m * U → R * (d * e) ≤ (n * e + m * d) * U
added R X Y U n d m e z h a b =
    let both : R ≤ X + Y = le_of_mul-le-mul_right {k = U * U} (omega arith) (mul-pos z z) in
    omega (arith, mul-le-mul_right (d * e) both, mul-le-mul_right e a, mul-le-mul_right d b)

-- The operations

pub product_lower : {a b r : Span} {n d m e : ℕ} → Normal a → Normal b → Product a b r → LowerAtMost a n d → LowerAtMost b m e → LowerAtMost r (n * m) (d * e)
product_lower {a} {b} {r} {n} {d} {m} {e} na nb p h k =
    let U = unit in
    let X = a.lo * 2 ^ a.e in
    let Y = b.lo * 2 ^ b.e in
    let uu : 0 < U * U = mul-pos unit_positive unit_positive in
    let at = held (X * Y) (U * U) uu (product_at X U Y U unit_positive unit_positive uu p (lower_end a na) (lower_end b nb)) in
    record { below = times _ X Y U n d m e unit_positive at.below h.below k.below }

pub product_upper : {a b r : Span} {n d m e : ℕ} → Normal a → Normal b → Product a b r → UpperAtLeast a n d → UpperAtLeast b m e → UpperAtLeast r (n * m) (d * e)
product_upper {a} {b} {r} {n} {d} {m} {e} na nb p h k =
    let U = unit in
    let X = a.hi * 2 ^ a.e in
    let Y = b.hi * 2 ^ b.e in
    let uu : 0 < U * U = mul-pos unit_positive unit_positive in
    let at = held (X * Y) (U * U) uu (product_at X U Y U unit_positive unit_positive uu p (upper_end a na) (upper_end b nb)) in
    record { above = times_up _ X Y U n d m e unit_positive at.above h.above k.above }

pub quotient_lower : {a b r : Span} {n d m e : ℕ} → Normal a → Normal b → Quotient a b r → LowerAtMost a n d → UpperAtLeast b m e → LowerAtMost r (n * e) (d * m)
quotient_lower {a} {b} {r} {n} {d} {m} {e} na nb q h k =
    let U = unit in
    let X = a.lo * 2 ^ a.e in
    let Y = b.hi * 2 ^ b.e in
    let y : 0 < Y = mul-pos {m = b.hi} (omega (arith, nb.least)) (pow_pos b.e) in
    let uy : 0 < U * Y = mul-pos unit_positive y in
    let at = held (X * U) (U * Y) uy (quotient_at X U Y U unit_positive unit_positive uy y q (lower_end a na) (upper_end b nb)) in
    record { below = divided _ X Y U n d m e unit_positive at.below h.below k.above }

pub quotient_upper : {a b r : Span} {n d m e : ℕ} → Normal a → Normal b → Quotient a b r → UpperAtLeast a n d → LowerAtMost b m e → UpperAtLeast r (n * e) (d * m)
unfolding hull units
quotient_upper {a} {b} {r} {n} {d} {m} {e} na nb q h k =
    let U = unit in
    let X = a.hi * 2 ^ a.e in
    let Y = b.lo * 2 ^ b.e in
    let y : 0 < Y = q.divisor.above in
    let uy : 0 < U * Y = mul-pos unit_positive y in
    let at = held (X * U) (U * Y) uy (quotient_at X U Y U unit_positive unit_positive uy y q (upper_end a na) (lower_end b nb)) in
    record { above = divided_up _ X Y U n d m e unit_positive at.above h.above k.below }

pub sum_lower : {a b r : Span} {n d m e : ℕ} → Normal a → Normal b → Sum a b r → LowerAtMost a n d → LowerAtMost b m e → LowerAtMost r (n * e + m * d) (d * e)
unfolding hull units fraction ◌⊞◌
sum_lower {a} {b} {r} {n} {d} {m} {e} na nb s h k =
    let at = (s.holds _ _ (lower_end a na) (lower_end b nb)).above.cross in
    record { below = added _ (a.lo * 2 ^ a.e) (b.lo * 2 ^ b.e) unit n d m e unit_positive (omega (arith, at)) h.below k.below }

-- what is added may be left out
pub sum_upper : {a b r : Span} {n d : ℕ} → Normal a → Normal b → Sum a b r → UpperAtLeast a n d → UpperAtLeast r n d
unfolding hull units fraction ◌⊞◌
sum_upper {a} {b} {r} {n} {d} na nb s h =
    let at = (s.holds _ _ (upper_end a na) (upper_end b nb)).below.cross in
    let more : a.hi * 2 ^ a.e ≤ r.hi * 2 ^ r.e = le_of_mul-le-mul_right {k = unit * unit} (omega (arith, at)) (mul-pos unit_positive unit_positive) in
    record { above = omega (arith, mul-le-mul_right d more, h.above) }

-- a lower end that is not above another
not_above_lem : {a r : Span} {n d : ℕ} → r.lo * 2 ^ r.e ≤ a.lo * 2 ^ a.e → LowerAtMost a n d → LowerAtMost r n d
not_above_lem {d = d} l h = record { below = omega (arith, mul-le-mul_right d l, h.below) }

-- what is taken away may be left out
pub difference_lower : {a b r : Span} {n d : ℕ} → Normal a → Normal b → Difference a b r → LowerAtMost a n d → LowerAtMost r n d
unfolding hull units fraction ◌⊟◌ ◌⊞◌ neg
difference_lower {a} {b} {r} na nb s h =
    let at = (s.holds _ _ (lower_end a na) (lower_end b nb)).above.cross in
    not_above_lem (le_of_mul-le-mul_right {k = unit * unit} (omega (arith, at)) (mul-pos unit_positive unit_positive)) h

-- and so may the first of two
pub smaller_lower : {a b r : Span} {n d : ℕ} → Normal a → Normal b → Smaller a b r → LowerAtMost b n d → LowerAtMost r n d
unfolding hull units fraction
smaller_lower {a} {b} {r} na nb s h =
    let at = (⊑_trans (s.holds _ _ (lower_end a na) (lower_end b nb)).above (smaller_right _ _)).cross in
    not_above_lem (le_of_mul-le-mul_right {k = unit} (omega (arith, at)) unit_positive) h

-- What is at most n/d at its lower end, and narrow, is at most 2^j; what is at least n/d at its upper end is at least 2^-j

top : (L H U n d k : ℕ) → 0 < d → L * d ≤ n * U → 512 * n ≤ 511 * k * d → Rel L H (2 ^ 20) → H ≤ k * U
top L H U n d k z h l w =
    le_of_mul-le-mul_right {k = d} (omega (arith, mul-le-mul_right U l, mul-le-mul_right d w.narrow)) z

pub value_most_of : {a : Span} {n d : ℕ} → Width a (2 ^ 20) → LowerAtMost a n d → 0 < d → (k : ℕ) → 512 * n ≤ 511 * k * d → a.hi * 2 ^ a.e ≤ k * unit
value_most_of {a} {n} {d} w h z k l = top _ (a.hi * 2 ^ a.e) unit n d k z h.below l (value_width a w)

pub exponent_most_of : {a : Span} {n d : ℕ} → Normal a → Width a (2 ^ 20) → LowerAtMost a n d → 0 < d → (j : ℕ) → 512 * n ≤ 511 * 2 ^ j * d → a.e ≤ 994 + j
exponent_most_of {a} m w h z j l = exponent_most m j (value_most_of w h z (2 ^ j) l)

bottom : (H U n d k : ℕ) → 0 < n → n * U ≤ H * d → d ≤ k * n → U ≤ H * k
bottom H U n d k z h l = le_of_mul-le-mul_right {k = n} (omega (arith, mul-le-mul_right H l)) z

pub exponent_least_of : {a : Span} {n d : ℕ} → Normal a → UpperAtLeast a n d → 0 < n → (j : ℕ) → d ≤ 2 ^ j * n → 993 ≤ a.e + j
exponent_least_of {a} {n} {d} m h z j l = exponent_least m j (bottom (a.hi * 2 ^ a.e) unit n d (2 ^ j) z h.above l)

-- Where b is at most seven tenths of n/d and a is at least n/d, narrow spans leave a fourth of a over: what `sub` asks

quarter : (A A' B B' U n d m e : ℕ) → 0 < d * e → n * U ≤ A' * d → B * e ≤ m * U → 10 * (m * d) ≤ 7 * (n * e) → Rel A A' (2 ^ 20) → Rel B B' (2 ^ 20)
    → 4 * B' ≤ 3 * A
quarter A A' B B' U n d m e z a b h v w =
    let most : 10 * B ≤ 7 * A' = le_of_mul-le-mul_right {k = d * e} (omega (arith, mul-le-mul_right (7 * e) a, mul-le-mul_right (10 * d) b, mul-le-mul_right U h)) z in
    omega arith

pub share_of : {a b : Span} {n d m e : ℕ} → UpperAtLeast a n d → LowerAtMost b m e → 0 < d * e → 10 * (m * d) ≤ 7 * (n * e) → Width a (2 ^ 20) → Width b (2 ^ 20)
    → 4 * (b.hi * 2 ^ b.e) ≤ 3 * (a.lo * 2 ^ a.e)
share_of {a} {b} {n} {d} {m} {e} h k z l v w =
    quarter _ (a.hi * 2 ^ a.e) (b.lo * 2 ^ b.e) _ unit n d m e z h.above k.below l (value_width a v) (value_width b w)

-- A span that contains a bracket which lies from L to U

within : (x : Option Bracket) {I : Bracket} (L U : Ratio) → Meets x x → Inside x (some I) → Inside x (some (record { lo = of_ratio L; hi = of_ratio U }))
    → (I.lo ⊑ of_ratio U) × (of_ratio L ⊑ I.hi)
within none L U m h k = absurd h
within (some A) L U m h k = (⊑_trans h.above (⊑_trans m k.below), ⊑_trans k.above (⊑_trans m h.below))

module _ {a : Span} {x : Formula} {n : ℕ} (L U : Ratio) (h : Encloses a x n) (k : Inside (bracket_at x n) (some (record { lo = of_ratio L; hi = of_ratio U }))) where
  pub enclosed_lower : LowerAtMost a U.num U.den
  unfolding hull units of_ratio
  enclosed_lower = record { below = omega (arith, (within (bracket_at x n) L U (meeting x n n) h.inside k).0.cross) }

  pub enclosed_upper : UpperAtLeast a L.num L.den
  unfolding hull units of_ratio
  enclosed_upper = record { above = omega (arith, (within (bracket_at x n) L U (meeting x n n) h.inside k).1.cross) }
