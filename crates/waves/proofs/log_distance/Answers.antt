-- `waves::log_distance` meets its contract. That ln R is from -1.67 up where R is from 0.19 up comes from the second bracket of
-- ln (100/19), computed. Assumes nothing.
-- 0.19
use Prim.Native.Nat.{◌+◌, ◌*◌, ◌^◌, ◌≤◌}
use native.Mathlib.Nat.{mul-pos}
use native.Mathlib.Decide.{dec_le}
use native.Mathlib.Omega.{arith}
use lib.Dec.{lit≤}
use lib.IntN.{ℤ, pos, negsuc}
use lib.Pow.{pow_pos}
use Rattle.exact.specs.Fraction.{◌≼◌, Above0, whole, ◌⊕◌, ◌⊗◌, ◌⊖◌, recip, power, sum, Frac, ◌⊑◌, Positive, of_ratio, one_f, magnitude, neg}
use Rattle.exact.specs.Series.{one_over, even, ln_term, gap, ln_tail, series_upper, climb, exponent, argument, third}
use Rattle.exact.specs.LnExp.{ln2_upper, ln_upper}
use Rattle.exact.proofs.laws.Frac.{⊑_trans, neg_anti}
use Rattle.exact.proofs.laws.EndsMeet.{of_ratio_mono, ln_below}
use Rattle.exact.specs.laws.Divisors.{magnitude_above, one_recip}
use Rattle.exact.proofs.laws.Points.{ln_low_below}
use Rattle.exact.specs.Series as series
use Rattle.span.specs.declared.Span.{Span}
use Rattle.span.specs.Spans.{unit, unit_positive, fraction, Normal}
use Rattle.span.specs.Enclosing.{divisor}
use Rattle.span.specs.Bounds.{upper_end}
use Rattle.fixed.specs.declared.Log.{Log}
use Rattle.fixed.specs.Logs.{up, dn, fixed, bracket}
use Rattle.fixed.specs.Enclosing as logs
use Rattle.enclosure.specs.Promises.{enough, Loggable, Logarithm}
use Rattle.enclosure.specs.Enclosing.{logarithm_encloses, logarithm_small}
use Rattle.guidance.specs.Waves.{hundredths}
use Rattle.waves.specs.EndBounds.{UpperAtLeast}
use Rattle.waves.specs.Detonation.{Distance}
use Rattle.waves.specs.Gas.{Logged, LogDistance}
use Rattle.waves.proofs.Distances.{window}
use Rattle.waves.proofs.log_distance.Goals as goal

abbrev nearest : Frac
nearest = of_ratio (hundredths 19)

below_one : ¬ (one_f ⊑ nearest)
unfolding one_f of_ratio whole
below_one h = omega (arith, h.cross)

nearest_positive : Positive nearest
unfolding of_ratio
nearest_positive = record { above = omega arith }

-- ln (100/19) is at most 1.67
computed : (u : Above0 (magnitude nearest)) (o : whole 1 ≼ recip (magnitude nearest) u) → ln_upper (recip (magnitude nearest) u) o 2 ≼ hundredths 167
unfolding ln_upper ln2_upper exponent climb dec_le series.fraction argument third series_upper ln_term ln_tail gap one_over even power sum recip whole ◌⊕◌ ◌⊗◌ ◌⊖◌ of_ratio magnitude
computed u o = record { cross = lit≤ tt }

module _ {r : Span} {l : Log} (m : Normal r) (k : Logarithm r l) (h : UpperAtLeast r 19 100) where
  top-positive : Positive (fraction (r.hi * 2 ^ r.e) unit unit_positive)
  unfolding fraction
  top-positive = record { above = mul-pos {m = r.hi} (omega (arith, m.least)) (pow_pos r.e) }

  above-nearest : nearest ⊑ fraction (r.hi * 2 ^ r.e) unit unit_positive
  unfolding fraction of_ratio
  above-nearest = record { cross = omega (arith, h.above) }

  near-end : neg (of_ratio (hundredths 167)) ⊑ (bracket l).hi
  near-end =
      let u = magnitude_above nearest nearest_positive in
      let o = one_recip nearest u below_one in
      ⊑_trans (neg_anti (of_ratio_mono (computed u o)))
      (⊑_trans (ln_low_below nearest below_one u o 2 nearest_positive)
      (⊑_trans (ln_below nearest _ nearest_positive top-positive above-nearest 2 enough) (k.holds _ (upper_end r m) top-positive enough (omega arith)).below))

  near : 100 * dn l.hi ≤ 167 * 2 ^ 30
  unfolding bracket fixed of_ratio neg
  near = alone l.hi (omega (arith, near-end.cross))
    where
      alone : (x : ℤ) → 100 * dn x ≤ 167 * 2 ^ 30 + 100 * up x → 100 * dn x ≤ 167 * 2 ^ 30
      alone (pos n) a = omega arith
      alone (negsuc n) a = omega arith

module _ {r : Span} (x : Distance 14 100 r) where
  loggable : Loggable r
  loggable =
      let k = window x (omega arith) (omega arith) in
      record { normal = x.normal; far = divisor x.normal x.narrow (omega arith); most = omega arith }

  result : {l : Log} → Logarithm r l → LogDistance r l
  result {l} k =
      let w = window x (omega arith) (omega arith) in
      let logged : Logged l =
      record {
        ordered = k.ordered;
        narrow = logs.wider (omega arith) (k.width _ x.narrow (omega arith));
        small = logs.larger (omega arith) (logarithm_small 5 k x.narrow (omega arith) (omega arith) (omega arith));
      } in
      record {
        encloses = λ y n e h. logarithm_encloses k e h;
        width = λ D v d. k.width D v (omega arith);
        logged = logged;
        near = λ h. record { logged = logged; near = near x.normal k h };
      }

pub ln-requires : goal.ln-requires
ln-requires c =
    loggable c.requires

pub returns : goal.returns
returns c =
    result c.requires c.ln.ensures
