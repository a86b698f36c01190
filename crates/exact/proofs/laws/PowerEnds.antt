-- The formula t^(p/q) = e^((p/q) ln t) of a fraction t > 0, for every N from a constant on: `power_ends` gives two fractions
-- around its N-th bracket, with lo^q ≤ t^p ≤ hi^q and hi (1 - 2^-k) ≤ lo (1 + 2^-k). An exact comparison of whole powers then
-- bounds the bracket, and a quotient by it (`ends_below`, `ends_above`). Assumes nothing.
use Prim.Native.Nat.{ℕ, zero, suc, ◌+◌, ◌*◌, ◌^◌, ◌≤◌}
use Rattle.std.proofs.Math.Option.{some}
use Rattle.std.proofs.Common.{arith}
use Rattle.exact.specs.Fraction.{Ratio, ◌≼◌, ◌≈◌, Above0, whole, ◌⊗◌, ◌⊖◌, recip, power, Frac, ◌⊑◌, Positive, ◌⊠◌, neg, of_ratio, magnitude, one_f}
use Rattle.exact.specs.Series.{exp_lower, exp_upper, one_over, exponent}
use Rattle.exact.specs.LnExp.{ln_lower, ln_upper, ln_lower_at, ln_upper_at, exp_lower_at, exp_upper_at}
use Rattle.exact.specs.Formula.{Formula, const, ln, bracket_at, power_of}
use Rattle.exact.specs.laws.Containment.{Inside}
use Rattle.exact.proofs.laws.Containment.{inside_wider, ln_lower_end, ln_upper_end}
use Rattle.exact.specs.laws.Decide.{dec_f}
use Rattle.exact.specs.laws.Divisors.{magnitude_above, one_magnitude, one_recip}
use Rattle.exact.proofs.laws.EndsMeet.{of_ratio_mono, one_below_exp}
use Rattle.exact.proofs.laws.Equal.{≈-refl, ≈-trans, ⊗_cong, ⊗_cancel_right}
use Rattle.exact.proofs.laws.ExpSpread.{slack, recip_both}
use Rattle.exact.proofs.laws.Frac.{scale_mono, ⊑_refl, ⊑_trans}
use Rattle.exact.proofs.laws.Ln.{whole_mono}
use Rattle.exact.proofs.laws.LogAbove.{above_power}
use Rattle.exact.proofs.laws.Points.{point_inside, pair, scale_inside, signed_above, signed_product, product_signed, negated_product, product_negated, lower_at, upper_at, lower_at_negative, upper_at_negative, ln_low_above, ln_high_above, ln_low_below, ln_high_below, exp_of}
use Rattle.exact.proofs.laws.Power.{half_falls, power_lower, power_upper, power_there, power_near, power_cancel, product_power, exponent_bound}
use Rattle.exact.proofs.laws.Ratio.{one_times, ≼_refl, ≼_trans, to≼, from≼, ⊕-upper, ⊗_mono, ⊗_assoc, recip_anti, power_mono, above_one}
use Rattle.exact.specs.laws.Reduction.{LowerEnd, UpperEnd}
use Rattle.exact.proofs.laws.Reduction.{least_one, least_all}
use Rattle.exact.proofs.laws.Spread.{recip_above}
use Rattle.exact.proofs.laws.Inclusion.{ln_inside}
use Rattle.exact.specs.laws.Width.{half}

-- The ends of e^ and ln that make up an end of t^(p/q)

pub record PowerLow (a : Ratio) (t : Frac) (n : ℕ) (lo : Ratio) : Type 0 where
  pub place : Frac
  pub below : (p : Positive t) → place ⊑ of_ratio a ⊠ ln_lower_at t p n
  pub end : LowerEnd (exp_lower_at place n) lo

pub record PowerHigh (a : Ratio) (t : Frac) (n : ℕ) (hi : Ratio) : Type 0 where
  pub place : Frac
  pub above : (p : Positive t) → of_ratio a ⊠ ln_upper_at t p n ⊑ place
  pub end : UpperEnd (exp_upper_at place n) hi

-- x^(p/q) for a formula x whose bracket lies within s .. t
pub power_inside : (a : Ratio) (x : Formula) (j : ℕ) (s t : Frac) {lo hi : Ratio} → Positive s → Positive t → Inside (bracket_at x (suc j)) (some (pair s t))
    → PowerLow a s (suc j) lo → PowerHigh a t (suc j) hi
    → Inside (bracket_at (power_of (of_ratio a) x) (suc j)) (some (pair (of_ratio lo) (of_ratio hi)))
power_inside a x j s t p q h l u =
    exp_of _ j (pair l.place u.place)
    (scale_inside (of_ratio a) (signed_above a) (ln x) (suc j) (pair (ln_lower_at s p (suc j)) (ln_upper_at t q (suc j))) _
    (ln_inside x (suc j) (pair s t) _ h p q (λ i. ln_lower_end s s p i (⊑_refl s) (suc j)) (λ i. ln_upper_end t t i q (⊑_refl t) (suc j)))
    (l.below p) (u.above q))
    l.end u.end

-- t ≥ 1

low_above : (a : Ratio) (t : Frac) → one_f ⊑ t → (n : ℕ) → PowerLow a t n (exp_lower (a ⊗ ln_lower (magnitude t) n) n)
low_above a t o n =
    record {
      place = of_ratio (a ⊗ ln_lower (magnitude t) n);
      below = λ p. ⊑_trans (signed_product a _) (scale_mono (signed_above a) (ln_low_above t o n p));
      end = lower_at _ n;
    }

high_above : (a : Ratio) (t : Frac) (o : one_f ⊑ t) (n : ℕ) (g : Above0 (whole (suc n) ⊖ a ⊗ ln_upper (magnitude t) (one_magnitude o) n))
    → PowerHigh a t n (exp_upper (a ⊗ ln_upper (magnitude t) (one_magnitude o) n) n g)
high_above a t o n g =
    record {
      place = of_ratio (a ⊗ ln_upper (magnitude t) (one_magnitude o) n);
      above = λ p. ⊑_trans (scale_mono (signed_above a) (ln_high_above t o n p)) (product_signed a _);
      end = upper_at _ n g;
    }

-- t < 1: one over the ends of (1/t)^(p/q)

module _ (a : Ratio) (t : Frac) (b : ¬ (one_f ⊑ t)) (u : Above0 (magnitude t)) (o : whole 1 ≼ recip (magnitude t) u) (n : ℕ) (i : 1 ≤ n) where
  low_below : (g : Above0 (whole (suc n) ⊖ a ⊗ ln_upper (recip (magnitude t) u) o n)) (p : Above0 (exp_upper (a ⊗ ln_upper (recip (magnitude t) u) o n) n g))
      → PowerLow a t n (recip _ p)
  low_below g p =
      record {
        place = neg (of_ratio (a ⊗ ln_upper (recip (magnitude t) u) o n));
        below = λ q. ⊑_trans (negated_product a _) (scale_mono (signed_above a) (ln_low_below t b u o n q));
        end = lower_at_negative _ n i g p;
      }

  high_below : (p : Above0 (exp_lower (a ⊗ ln_lower (recip (magnitude t) u) n) n)) → PowerHigh a t n (recip _ p)
  high_below p =
      record {
        place = neg (of_ratio (a ⊗ ln_lower (recip (magnitude t) u) n));
        above = λ q. ⊑_trans (scale_mono (signed_above a) (ln_high_below t b u o n q)) (product_negated a _);
        end = upper_at_negative _ n i p;
      }

-- The ends of t^(p/q)

pub record PowerEnds (a : Ratio) (t : Frac) (k n : ℕ) : Type 0 where
  pub lo : Ratio
  pub hi : Ratio
  pub above : Above0 lo
  pub low : PowerLow a t n lo
  pub high : PowerHigh a t n hi
  pub lower : power lo a.den ≼ power (magnitude t) a.num
  pub upper : power (magnitude t) a.num ≼ power hi a.den
  pub near : hi ⊗ (whole 1 ⊖ power half k) ≼ lo ⊗ slack k
  pub inside : Inside (bracket_at (power_of (of_ratio a) (const t)) n) (some (record { lo = of_ratio lo; hi = of_ratio hi }))

recip_pair : (x y : Ratio) (p : Above0 x) (q : Above0 y) (r : Above0 (x ⊗ y)) → recip x p ⊗ recip y q ≈ recip (x ⊗ y) r
unfolding recip ◌⊗◌
recip_pair x y p q r = omega arith

recip_one : (p : Above0 (whole 1)) → whole 1 ≈ recip (whole 1) p
unfolding whole recip
recip_one p = omega arith

-- (1/x)^q = 1/x^q
power_recip : (x : Ratio) (p : Above0 x) (q : ℕ) (r : Above0 (power x q)) → power (recip x p) q ≈ recip (power x q) r
unfolding power
power_recip x p zero r = recip_one r
power_recip x p (suc q) r = ≈-trans (⊗_cong (≈-refl (recip x p)) (power_recip x p q (above_power p q))) (recip_pair x (power x q) p _ r)

twice_recip : (x : Ratio) (p : Above0 x) (q : Above0 (recip x p)) → recip (recip x p) q ≈ x
unfolding recip
twice_recip x p q = omega arith

module _ (x : Ratio) (u : Above0 x) (p q : ℕ) where
  -- (1/x)^p ≤ y^q gives (1/y)^q ≤ x^p
  turn_lower : (y : Ratio) (v : Above0 y) → power (recip x u) p ≼ power y q → power (recip y v) q ≼ power x p
  turn_lower y v h =
      let w : Above0 (recip x u) = recip_above x u in
      ≼_trans (to≼ (power_recip y v q (above_power v q)))
      (≼_trans (recip_anti (above_power w p) (above_power v q) h)
      (≼_trans (from≼ (power_recip (recip x u) w p (above_power w p))) (power_mono (to≼ (twice_recip x u w)) p)))

  -- y^q ≤ (1/x)^p gives x^p ≤ (1/y)^q
  turn_upper : (y : Ratio) (v : Above0 y) → power y q ≼ power (recip x u) p → power x p ≼ power (recip y v) q
  turn_upper y v h =
      let w : Above0 (recip x u) = recip_above x u in
      ≼_trans (power_mono (from≼ (twice_recip x u w)) p)
      (≼_trans (to≼ (power_recip (recip x u) w p (above_power w p)))
      (≼_trans (recip_anti (above_power v q) (above_power w p) h) (from≼ (power_recip y v q (above_power v q)))))

octave_bound : (a x : Ratio) → whole 1 ≼ x → (K c : ℕ) → x ≼ whole (2 ^ K) → a ⊗ whole (suc K) ≼ whole c → a ⊗ whole (suc (exponent x)) ≼ whole c
octave_bound a x o K c h b = ≼_trans (⊗_mono (≼_refl a) (whole_mono _ _ (omega (arith, exponent_bound x o K h)))) b

-- for 2^-K ≤ t ≤ 2^K, (p/q) (K + 1) ≤ c and N > 4c + k
pub power_ends : (a : Ratio) (t : Frac) → Positive t → (K c k n : ℕ) → magnitude t ≼ whole (2 ^ K) → ((u : Above0 (magnitude t)) → recip (magnitude t) u ≼ whole (2 ^ K))
    → a ⊗ whole (suc K) ≼ whole c → suc (4 * c + k) ≤ n → PowerEnds a t k n
power_ends a t h K c k zero m r b l = absurd (omega arith)
power_ends a t h K c k (suc j) m r b l = go (dec_f one_f t)
  where
    go : Dec (one_f ⊑ t) → PowerEnds a t k (suc j)
    go (yes i) =
        let o : whole 1 ≼ magnitude t = one_magnitude i in
        let e = octave_bound a (magnitude t) o K c m b in
        let g = power_there a (magnitude t) o c k (suc j) e l in
        record {
          lo = exp_lower (a ⊗ ln_lower (magnitude t) (suc j)) (suc j);
          hi = exp_upper (a ⊗ ln_upper (magnitude t) o (suc j)) (suc j) g;
          above = above_one (least_all (least_one _) (suc j) (omega arith));
          low = low_above a t i (suc j);
          high = high_above a t i (suc j) g;
          lower = power_lower a (magnitude t) o (suc j) (suc j);
          upper = power_upper a (magnitude t) o (suc j) (suc j) g;
          near = power_near a (magnitude t) o c k (suc j) e l g;
          inside = power_inside a (const t) j t t h h (point_inside t (suc j)) (low_above a t i (suc j)) (high_above a t i (suc j) g);
        }
    go (no i) =
        let u : Above0 (magnitude t) = magnitude_above t h in
        let X : Ratio = recip (magnitude t) u in
        let o : whole 1 ≼ X = one_recip t u i in
        let e = octave_bound a X o K c (r u) b in
        let g = power_there a X o c k (suc j) e l in
        let p : Above0 (exp_upper (a ⊗ ln_upper X o (suc j)) (suc j) g) = above_one (one_below_exp _ (suc j) g) in
        let q : Above0 (exp_lower (a ⊗ ln_lower X (suc j)) (suc j)) = above_one (least_all (least_one _) (suc j) (omega arith)) in
        record {
          lo = recip (exp_upper (a ⊗ ln_upper X o (suc j)) (suc j) g) p;
          hi = recip (exp_lower (a ⊗ ln_lower X (suc j)) (suc j)) q;
          above = recip_above _ p;
          low = low_below a t i u o (suc j) (omega arith) g p;
          high = high_below a t i u o (suc j) (omega arith) q;
          lower = turn_lower (magnitude t) u a.num a.den _ p (power_upper a X o (suc j) (suc j) g);
          upper = turn_upper (magnitude t) u a.num a.den _ q (power_lower a X o (suc j) (suc j));
          near = recip_both _ _ _ _ q p (power_near a X o c k (suc j) e l g);
          inside =
              power_inside a (const t) j t t h h (point_inside t (suc j)) (low_below a t i u o (suc j) (omega arith) g p)
              (high_below a t i u o (suc j) (omega arith) q);
        }

pub slack_above : (k : ℕ) → Above0 (slack k)
slack_above k = above_one (⊕-upper (whole 1) (power half k))

-- 1 - 2^-k is above 0, for k ≥ 1
half_less : (x : Ratio) → x ≼ half → Above0 (whole 1 ⊖ x)
unfolding half one_over whole ◌⊖◌
half_less x h = omega (arith, h.cross, x.positive)

half_once : power half 1 ≼ half
unfolding power half one_over whole ◌⊗◌
half_once = omega arith

pub less_above : (k : ℕ) → 1 ≤ k → Above0 (whole 1 ⊖ power half k)
less_above k l = half_less (power half k) (≼_trans (half_falls 1 k l) half_once)

module _ (a : Ratio) (t : Frac) (k n : ℕ) (e : PowerEnds a t k n) where
  -- c^q t^p ≤ r^q gives c hi (1 - 2^-k) ≤ r (1 + 2^-k)
  pub ends_below : (c r : Ratio) → power c a.den ⊗ power (magnitude t) a.num ≼ power r a.den
      → c ⊗ e.hi ⊗ (whole 1 ⊖ power half k) ≼ r ⊗ slack k
  ends_below c r h =
      let m : c ⊗ e.lo ≼ r
      = power_cancel _ r a.den a.positive (≼_trans (to≼ (product_power c e.lo a.den)) (≼_trans (⊗_mono (≼_refl _) e.lower) h)) in
      ≼_trans (to≼ (⊗_assoc c e.hi _))
      (≼_trans (⊗_mono (≼_refl c) e.near) (≼_trans (from≼ (⊗_assoc c e.lo (slack k))) (⊗_mono m (≼_refl (slack k)))))

  -- r^q ≤ c^q t^p gives r (1 - 2^-k) ≤ c lo (1 + 2^-k)
  pub ends_above : (c r : Ratio) → power r a.den ≼ power c a.den ⊗ power (magnitude t) a.num
      → r ⊗ (whole 1 ⊖ power half k) ≼ c ⊗ e.lo ⊗ slack k
  ends_above c r h =
      let m : r ≼ c ⊗ e.hi
      = power_cancel r _ a.den a.positive (≼_trans h (≼_trans (⊗_mono (≼_refl _) e.upper) (from≼ (product_power c e.hi a.den)))) in
      ≼_trans (⊗_mono m (≼_refl _))
      (≼_trans (to≼ (⊗_assoc c e.hi _)) (≼_trans (⊗_mono (≼_refl c) e.near) (from≼ (⊗_assoc c e.lo (slack k)))))

  one_power : (q : ℕ) (x : Ratio) → power (whole 1) q ⊗ x ≈ x
  unfolding power
  one_power zero x = one_times x
  one_power (suc q) x = ≈-trans (⊗_cong (one_times (power (whole 1) q)) (≈-refl x)) (one_power q x)

  -- d^q ≤ t^p gives d (1 - 2^-k) ≤ lo (1 + 2^-k)
  pub ends_at_least : (d : Ratio) → power d a.den ≼ power (magnitude t) a.num → d ⊗ (whole 1 ⊖ power half k) ≼ e.lo ⊗ slack k
  ends_at_least d h =
      ≼_trans (ends_above (whole 1) d (≼_trans h (from≼ (one_power a.den _)))) (⊗_mono (to≼ (one_times e.lo)) (≼_refl (slack k)))

  -- t^p ≤ d^q gives hi (1 - 2^-k) ≤ d (1 + 2^-k)
  pub ends_at_most : (d : Ratio) → power (magnitude t) a.num ≼ power d a.den → e.hi ⊗ (whole 1 ⊖ power half k) ≼ d ⊗ slack k
  ends_at_most d h =
      ≼_trans (⊗_mono (from≼ (one_times e.hi)) (≼_refl _)) (ends_below (whole 1) d (≼_trans (to≼ (one_power a.den _)) h))

  -- d^q ≤ t^p ≤ D^q gives a bracket between any L a little below d and any U a little above D
  pub ends_between : (d D L U : Ratio) → Above0 (whole 1 ⊖ power half k)
      → power d a.den ≼ power (magnitude t) a.num → power (magnitude t) a.num ≼ power D a.den
      → L ⊗ slack k ≼ d ⊗ (whole 1 ⊖ power half k) → D ⊗ slack k ≼ U ⊗ (whole 1 ⊖ power half k)
      → Inside (bracket_at (power_of (of_ratio a) (const t)) n) (some (record { lo = of_ratio L; hi = of_ratio U }))
  ends_between d D L U z h m f g =
      inside_wider (bracket_at (power_of (of_ratio a) (const t)) n) {I = record { lo = of_ratio e.lo; hi = of_ratio e.hi }}
      (record {
        above = of_ratio_mono (⊗_cancel_right (slack k) (slack_above k) (≼_trans f (ends_at_least d h)));
        below = of_ratio_mono (⊗_cancel_right (whole 1 ⊖ power half k) z (≼_trans (ends_at_most D m) g));
      })
      e.inside
