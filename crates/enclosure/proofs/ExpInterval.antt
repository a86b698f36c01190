-- e^ over an interval from s to t, from a span of e^t, t = (i - j)/2^30: its lower end moves down by 1 - δ. Assumes nothing.
use mathlib.Core.Path.{◌≡◌, refl, ap, subst₂}
use mathlib.Core.Option.{Option, none, some}
use Prim.Native.Nat.{ℕ, zero, suc, ◌+◌, ◌*◌, ◌-◌, ◌^◌, ◌≤◌, ◌<◌}
use native.Mathlib.Nat.{mul-pos, mul-le-mul_right, le_of_mul-le-mul_right}
use native.Mathlib.Omega.{arith}
use lib.IntN.{ℤ, pos, negsuc}
use Rattle.exact.specs.Fraction.{Ratio, ◌≼◌, Above0, whole, ◌⊕◌, ◌⊗◌, ◌⊖◌, power, Frac, ◌⊑◌, zero_f, neg, ◌⊞◌, ◌⊠◌, of_ratio, magnitude}
use Rattle.exact.proofs.laws.Ratio.{≼_refl, ≼_trans, zero-≼, ⊗_mono}
use Rattle.exact.specs.Series.{one_over}
use Rattle.exact.specs.laws.Width.{half}
use Rattle.exact.specs.laws.Decide.{dec_f}
use Rattle.exact.proofs.laws.Frac.{⊑_refl, ⊑_trans, ⊠-mono}
use Rattle.exact.specs.Bracket.{Bracket}
use Rattle.exact.proofs.laws.EndsMeet.{of_ratio_mono, Below, exp_below}
use Rattle.exact.specs.LnExp.{exp_lower_at, exp_upper_at}
use Rattle.exact.specs.Formula.{lift, ◌>>◌, exp_b}
use Rattle.exact.proofs.laws.Meeting.{ends}
use Rattle.exact.specs.laws.Containment.{Inside}
use Rattle.exact.proofs.laws.Containment.{exp_isotone}
use Rattle.exact.proofs.laws.Points.{point, pair, signed_above, signed_product, product_signed}
use Rattle.exact.specs.laws.Reduction.{LowerEnd}
use Rattle.exact.proofs.laws.Reduction.{most_upper, least_one, room, lower_from, lower_from_negative}
use Rattle.exact.proofs.laws.ExpSpread.{slack, exp_ends_near}
use Rattle.exact.specs.Holding.{◌∈◌}
use Rattle.span.specs.declared.Span.{Span}
use Rattle.span.specs.Spans.{unit, hull, units, Normal, Width}
use Rattle.span.specs.Unary.{ExpWithin}
use Rattle.span.specs.Enclosing.{wider}
use Rattle.fixed.specs.declared.Log.{Log}
use Rattle.fixed.specs.Logs.{fixed, up, dn, fixed_z, bracket, apart}
use Rattle.enclosure.specs.Promises.{enough, Exponent, Exponential}
use Rattle.enclosure.specs.ExpSteps.{low, high, binary, ExpAt, Lowered}
use Rattle.enclosure.proofs.ClosedFractions.{tested}

-- the N-th lower end is there

nothing : (x : Ratio) → whole 0 ⊗ x ≼ whole 1
unfolding whole ◌⊗◌
nothing x = omega (arith, x.positive)

pub lower_there : (s : Frac) (c n : ℕ) → magnitude (neg s) ≼ whole c → suc (2 * c + 33) ≤ n → LowerEnd (exp_lower_at s n) (whole 0)
lower_there s c n b l = go (dec_f zero_f s)
  where
    go : Dec (zero_f ⊑ s) → LowerEnd (exp_lower_at s n) (whole 0)
    go (yes z) =
        let h = lower_from s z (least_one (magnitude s)) n (omega arith) in
        record { end = h.end; is = h.is; bound = ⊑_trans (of_ratio_mono (zero-≼ (whole 1))) h.bound }
    go (no z) =
        lower_from_negative s z (most_upper (magnitude (neg s)) n (room (magnitude (neg s)) c n b (omega arith))) c 33 n b l (whole 0) (nothing _)

-- a factor above 0 is cancelled
cancel : (x y : Frac) (w : Ratio) → Above0 w → x ⊠ of_ratio w ⊑ y ⊠ of_ratio w → x ⊑ y
unfolding ◌⊠◌ of_ratio
cancel x y w p h =
    record { cross = le_of_mul-le-mul_right {k = w.num * w.den} (omega (arith, h.cross)) (mul-pos p.above w.positive) }

-- The lower end on words

slacks : slack 63 ⊗ slack 63 ≼ binary (2 ^ 61 + 1) 61
unfolding binary whole power half one_over ◌⊕◌ ◌⊗◌
slacks = tested _ _ tt

slacks_above : Above0 (slack 63 ⊗ slack 63)
unfolding whole power half one_over ◌⊕◌ ◌⊗◌
slacks_above = record { above = omega arith }

module _ {x r : Span} {d : ℕ} (m : Normal x) (s : d ≤ 2 ^ 28) (w : Lowered x d r) where
  lowered_product : low r ⊗ binary (2 ^ 61 + 1) 61 ≼ low x ⊗ (whole 1 ⊖ binary d 30)
  unfolding low binary whole ◌⊗◌ ◌⊖◌
  lowered_product =
      record { cross = rw w.e (go r.lo x.lo (2 ^ x.e) unit (1 * 2 ^ 30 - d * 1) (omega arith) w.below (omega (arith, w.below, m.most, m.ordered))) }
    where
      go : (a b v w k : ℕ) → k + d ≡ 2 ^ 30 → a * 2 ^ 30 + b * d + 1 ≤ b * 2 ^ 30 → a ≤ 2 ^ 31
          → a * v * (2 ^ 61 + 1) * (w * (1 * 2 ^ 30)) ≤ b * v * k * (w * 2 ^ 61)
      go a b v w k e h l =
          let key : a * (2 ^ 61 + 1) * 2 ^ 30 ≤ b * k * 2 ^ 61 = omega (arith, ap (λ (i : ℕ). b * i) e) in
          omega (arith, mul-le-mul_right (v * w) key)

-- what is in the bracket of the ends
within : (p : Frac) (n : ℕ) {K : Bracket} (c d : Option Frac) → exp_lower_at p n ≡ c → exp_upper_at p n ≡ d → Inside (ends c d) (some K) → ExpWithin p n K
unfolding lift ◌>>◌
within p n none d e f h = absurd h
within p n (some a) none e f h = absurd h
within p n (some a) (some b) e f h = record { lower = a; upper = b; lower_is = e; upper_is = f; above = h.above; below = h.below }

module _ (s : Frac) (i j d : ℕ) {x r : Span} (l : s ⊑ fixed i j) (a : fixed i j ⊑ s ⊞ of_ratio (binary d 30))
    (u : magnitude (neg s) ≼ whole 513) (v : magnitude (fixed i j) ≼ whole 513) (z : d ≤ 2 ^ 28) (h : ExpAt i j x) (w : Lowered x d r) where
  abbrev t : Frac
  t = fixed i j

  -- the lower end of e^s
  low_end : (n : ℕ) → enough ≤ n → (o : Frac) → exp_lower_at s n ≡ some o → of_ratio (low r) ⊑ o
  low_end n g o e =
      let K = h.lower n g in
      let U = h.upper n g in
      let meet : K.end ⊑ U.end = subst₂ Below K.is U.is (exp_below t t (⊑_refl t) n n) in
      let spread = exp_ends_near s t (binary d 30) l a 513 63 n u v (omega arith) o U.end e U.is in
      cancel _ _ (slack 63 ⊗ slack 63) slacks_above
      (⊑_trans (product_signed (low r) (slack 63 ⊗ slack 63))
      (⊑_trans (of_ratio_mono (≼_trans (⊗_mono (≼_refl (low r)) slacks) (lowered_product h.normal z w)))
      (⊑_trans (signed_product (low x) (whole 1 ⊖ binary d 30))
      (⊑_trans (⊠-mono (of_ratio (whole 1 ⊖ binary d 30)) (signed_above _) (⊑_trans K.bound meet)) spread))))

  high_same : high x ≼ high r
  unfolding high
  high_same = record { cross = rw w.e (rw w.hi (omega arith)) }

  pub points : (p : Frac) → p ∈ pair s t → (n : ℕ) → enough ≤ n → ExpWithin p n (hull r)
  unfolding hull units low high of_ratio exp_b lift ◌>>◌
  points p m zero g = absurd (omega arith)
  points p m (suc k) g =
      let L = lower_there s 513 (suc k) u (omega arith) in
      let U = h.upper (suc k) g in
      let inner = exp_isotone k (point p) (pair s t) (⊑_refl p) (record { above = m.above; below = m.below }) in
      let named = subst₂ (λ (c d : Option Frac). Inside (ends (exp_lower_at p (suc k)) (exp_upper_at p (suc k))) (ends c d)) L.is U.is inner in
      let q = within p (suc k) _ _ refl refl named in
      record {
        lower = q.lower;
        upper = q.upper;
        lower_is = q.lower_is;
        upper_is = q.upper_is;
        above = ⊑_trans (low_end (suc k) g L.end L.is) q.above;
        below = ⊑_trans q.below (⊑_trans U.bound (of_ratio_mono high_same));
      }

  pub normal : Normal r
  normal = record { least = omega (arith, w.hi, h.normal.least); most = omega (arith, w.hi, h.normal.most); ordered = omega (arith, w.hi, w.below, h.normal.ordered) }

  pub width : Width r (d + 30)
  width = record { narrow = rw w.hi (omega (arith, w.near, h.width.narrow, h.normal.least, mul-le-mul_right d h.normal.ordered)) }

-- Numbers of fixed point

fixed_ordered : (a b c d : ℕ) → a + d ≤ c + b → fixed a b ⊑ fixed c d
unfolding fixed
fixed_ordered a b c d h = record { cross = omega arith }

fixed_apart : (a b c d w : ℕ) → c + b ≤ a + d + w → fixed c d ⊑ fixed a b ⊞ of_ratio (binary w 30)
unfolding fixed binary of_ratio ◌⊞◌
fixed_apart a b c d w h = record { cross = omega arith }

fixed_size : (a b : ℕ) → a < 512 * 2 ^ 30 → magnitude (fixed a b) ≼ whole 513
unfolding fixed magnitude whole
fixed_size a b h = let l : a - b ≤ a = omega arith in record { cross = omega (arith, l) }

fixed_turned : (a b : ℕ) → b < 512 * 2 ^ 30 → magnitude (neg (fixed a b)) ≼ whole 513
unfolding neg fixed magnitude whole
fixed_turned a b h = let l : b - a ≤ b = omega arith in record { cross = omega (arith, l) }

-- the upper end is within the bounds too
pub upper_least : (y : Log) → Exponent y → dn y.hi < 512 * 2 ^ 30
upper_least y e = go y.lo y.hi e.ordered.ordered e.least
  where
    go : (lo hi : ℤ) → up lo + dn hi ≤ up hi + dn lo → dn lo < 512 * 2 ^ 30 → dn hi < 512 * 2 ^ 30
    go lo (pos n) o l = omega arith
    go lo (negsuc n) o l = omega arith

pub interval : (y : Log) {x r : Span} → Exponent y → ExpAt (up y.hi) (dn y.hi) x → Lowered x (apart y.lo y.hi) r → Exponential y r
unfolding bracket
interval y {x} {r} e h w =
    let lo = y.lo in
    let hi = y.hi in
    let d = apart lo hi in
    let l = fixed_ordered (up lo) (dn lo) (up hi) (dn hi) e.ordered.ordered in
    let a = fixed_apart (up lo) (dn lo) (up hi) (dn hi) d (omega arith) in
    let u = fixed_turned (up lo) (dn lo) e.least in
    let v = fixed_size (up hi) (dn hi) e.most in
    let z : d ≤ 2 ^ 28 = omega (arith, e.narrow.narrow) in
    record {
      normal = normal (fixed_z lo) (up hi) (dn hi) d l a u v z h w;
      holds = points (fixed_z lo) (up hi) (dn hi) d l a u v z h w;
      width = λ D n. wider (omega (arith, n.narrow)) (width (fixed_z lo) (up hi) (dn hi) d l a u v z h w);
      least = λ k i. omega (arith, w.e, h.least k i);
      most = λ k i. omega (arith, w.e, h.most k i);
    }
