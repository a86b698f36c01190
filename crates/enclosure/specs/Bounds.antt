-- For the callers: where e^ of an interval lies, from fractions that bound the interval. A bound of e^c, computed or proved, bounds the
-- near end of the result, and the width carries it to the other end: k ends on one side are at most k + 1 on the other. Assumes nothing.
use Rattle.std.specs.Prelude.{refl, ℕ, suc, ◌+◌, ◌*◌, ◌^◌, ◌≤◌}
use Rattle.std.proofs.Common.{subst₂, le_of_mul-le-mul_right, mul-le-mul_right, arith}
use Rattle.exact.specs.Fraction.{Ratio, Frac, ◌⊑◌, zero_f, of_ratio, magnitude}
use Rattle.exact.specs.Series.{exp_lower}
use Rattle.exact.specs.LnExp.{exp_lower_at, exp_upper_at}
use Rattle.exact.specs.laws.Decide.{dec_f, decided}
use Rattle.exact.proofs.laws.Ratio.{≼_refl, ≼_trans}
use Rattle.exact.proofs.laws.Frac.{⊑_refl, ⊑_trans}
use Rattle.exact.proofs.laws.Exp.{exp_lower_mono}
use Rattle.exact.proofs.laws.EndsMeet.{signed, of_ratio_mono, Below, exp_below}
use Rattle.exact.proofs.laws.Containment.{AtMost, exp_lower_end}
use Rattle.exact.proofs.laws.Points.{signed_above, signed_most, signed_least}
use Rattle.exact.specs.laws.Reduction.{Most, Least, LowerEnd, UpperEnd}
use Rattle.exact.proofs.laws.Reduction.{least_mono, lower_from}
use Rattle.exact.specs.Holding.{◌∈◌}
use Rattle.span.specs.declared.Span.{Span}
use Rattle.span.specs.Spans.{unit, units, hull, Width}
use Rattle.fixed.specs.declared.Log.{Log}
use Rattle.fixed.specs.Logs.{fixed, fixed_z, bracket, Ordered, Narrow}
use Rattle.enclosure.specs.Promises.{enough, Exponential}

-- k upper ends are at most k + 1 lower ends
pub ends_near : (k : ℕ) (a : Span) {D : ℕ} → Width a D → suc k * D ≤ 2 ^ 30 → k * a.hi ≤ suc k * a.lo
ends_near k a {D} w s =
    le_of_mul-le-mul_right {k = 2 ^ 30} (omega (arith, mul-le-mul_right (suc k) w.narrow, mul-le-mul_right a.hi s)) (omega arith)

-- both ends of the argument are points of it

lower_point : {y : Log} → Ordered y → fixed_z y.lo ∈ bracket y
unfolding bracket fixed
lower_point o = record { above = ⊑_refl _; below = record { cross = omega (arith, o.ordered) } }

upper_point : {y : Log} → Ordered y → fixed_z y.hi ∈ bracket y
unfolding bracket fixed
upper_point o = record { above = record { cross = omega (arith, o.ordered) }; below = ⊑_refl _ }

-- the ends of a span against a fraction

low_below : (r : Span) (U : Ratio) → (hull r).lo ⊑ of_ratio U → r.lo * 2 ^ r.e * U.den ≤ U.num * unit
unfolding hull units of_ratio
low_below r U h = omega (arith, h.cross)

high_above : (r : Span) (L : Ratio) → of_ratio L ⊑ (hull r).hi → L.num * unit ≤ r.hi * 2 ^ r.e * L.den
unfolding hull units of_ratio
high_above r L h = omega (arith, h.cross)

module _ {y : Log} {r : Span} (o : Ordered y) (e : Exponential y r) where
  -- an upper end of e^c, where the interval is below c
  pub low_most : {c : Frac} (m : ℕ) {U : Ratio} → fixed_z y.hi ⊑ c → UpperEnd (exp_upper_at c m) U → r.lo * 2 ^ r.e * U.den ≤ U.num * unit
  low_most {c} m {U} l u =
      let w = e.holds (fixed_z y.hi) (upper_point o) enough (omega arith) in
      let meet : w.lower ⊑ u.end = subst₂ Below w.lower_is u.is (exp_below (fixed_z y.hi) c l enough m) in
      low_below r U (⊑_trans w.above (⊑_trans meet u.bound))

  -- a lower end of e^c, where the interval is above c
  pub high_least : {c : Frac} (m : ℕ) {L : Ratio} → c ⊑ fixed_z y.lo → LowerEnd (exp_lower_at c m) L → L.num * unit ≤ r.hi * 2 ^ r.e * L.den
  high_least {c} m {L} l u =
      let w = e.holds (fixed_z y.lo) (lower_point o) enough (omega arith) in
      let meet : u.end ⊑ w.upper = subst₂ Below u.is w.upper_is (exp_below c (fixed_z y.lo) l m enough) in
      high_above r L (⊑_trans u.bound (⊑_trans meet w.below))

  module _ (k : ℕ) {W : ℕ} (n : Narrow y W) (s : suc k * (W + 30) ≤ 2 ^ 30) where
    near : k * r.hi ≤ suc k * r.lo
    near = ends_near k r (e.width W n) s

    pub expo_most : {c : Frac} (m : ℕ) {U : Ratio} → fixed_z y.hi ⊑ c → UpperEnd (exp_upper_at c m) U
        → k * (r.hi * 2 ^ r.e * U.den) ≤ suc k * (U.num * unit)
    expo_most m {U} l u = omega (arith, mul-le-mul_right (suc k) (low_most m l u), mul-le-mul_right (2 ^ r.e * U.den) near)

    pub expo_least : {c : Frac} (m : ℕ) {L : Ratio} → c ⊑ fixed_z y.lo → LowerEnd (exp_lower_at c m) L
        → k * (L.num * unit) ≤ suc k * (r.lo * 2 ^ r.e * L.den)
    expo_least m {L} l u = omega (arith, mul-le-mul_right k (high_least m l u), mul-le-mul_right (2 ^ r.e * L.den) near)

-- From 0 up: bounds of all sums

-- the N-th lower end is no higher than a bound of all sums
lower_capped : {c U : Ratio} → Most c U → (n : ℕ) → UpperEnd (exp_lower_at (of_ratio c) n) U
unfolding exp_lower_at
lower_capped {c} {U} h n =
    decided (λ o. UpperEnd (signed o) U) (dec_f zero_f (of_ratio c))
    (λ i. record { end = of_ratio (exp_lower (magnitude (of_ratio c)) n); is = refl; bound = of_ratio_mono (≼_trans (exp_lower_mono (signed_most c) n) (h.all n)) })
    (λ i. absurd (i (signed_above c)))

module _ {y : Log} {r : Span} (o : Ordered y) (e : Exponential y r) (k : ℕ) {W : ℕ} (n : Narrow y W) (s : suc k * (W + 30) ≤ 2 ^ 30) where
  pub expo_most_sum : {c U : Ratio} → fixed_z y.hi ⊑ of_ratio c → Most c U → k * (r.hi * 2 ^ r.e * U.den) ≤ suc k * (U.num * unit)
  expo_most_sum {c} {U} l h =
      let w = e.holds (fixed_z y.hi) (upper_point o) enough (omega arith) in
      let t = lower_capped h enough in
      let meet : w.lower ⊑ t.end = subst₂ AtMost w.lower_is t.is (exp_lower_end (fixed_z y.hi) (of_ratio c) l 11999) in
      let low = low_below r U (⊑_trans w.above (⊑_trans meet t.bound)) in
      omega (arith, mul-le-mul_right (suc k) low, mul-le-mul_right (2 ^ r.e * U.den) (ends_near k r (e.width W n) s))

  pub expo_least_sum : {c L : Ratio} {t : ℕ} → of_ratio c ⊑ fixed_z y.lo → Least t c L → k * (L.num * unit) ≤ suc k * (r.lo * 2 ^ r.e * L.den)
  expo_least_sum {c} {L} {t} l h =
      expo_least o e k n s t l (lower_from (of_ratio c) (signed_above c) (least_mono {u = t} (omega arith) (signed_least c) h (≼_refl L)) t (omega arith))
