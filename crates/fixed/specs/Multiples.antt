-- Multiples of an interval by p / d: the ends divided downward and upward decide all that is promised. Assumes nothing.
use Rattle.std.specs.Prelude.{◌≡◌, ℕ, ◌+◌, ◌*◌, ◌≤◌, ◌<◌, ℤ, pos, ◌*ℤ◌}
use Rattle.std.proofs.Common.{mul-le-mul_right, le_of_mul-le-mul_right, lt_of_mul-lt-mul_right, arith}
use Rattle.exact.proofs.laws.Frac.{⊑_trans, scale_mono}
use Rattle.fixed.specs.declared.Log.{Log}
use Rattle.fixed.specs.FloorAndCeiling.{up, dn, floor_z, ceil_z}
use Rattle.fixed.specs.Logs.{bracket, Ordered, Narrow, Small}
use Rattle.fixed.specs.Promises.{Scaled}
use Rattle.fixed.specs.SignedLaws.{one_sided, multiple_up, multiple_dn, floor_parts, ceil_parts}
use Rattle.fixed.specs.EndsAsFractions.{from_zero_lem, multiple_below, multiple_above}

-- z d ≤ x p < z d + d, for x = xu - xd and z = zu - zd; upward it is the same with the parts exchanged
pub record Down (p d xu xd zu zd : ℕ) : Type 0 where
  pub low : zu * d + xd * p ≤ xu * p + zd * d
  pub high : xu * p + zd * d < zu * d + xd * p + d

pub downward : (p d : ℕ) (x : ℤ) {z : ℤ} → 0 < d → z ≡ floor_z (x *ℤ pos p) d → Down p d (up x) (dn x) (up z) (dn z)
downward p d x o e =
    rw e (let f = floor_parts (x *ℤ pos p) d o in
    let u = multiple_up x p in
    let v = multiple_dn x p in
    record { low = omega (arith, f.low); high = omega (arith, f.high) })

pub upward : (p d : ℕ) (x : ℤ) {z : ℤ} → 0 < d → z ≡ ceil_z (x *ℤ pos p) d → Down p d (dn x) (up x) (dn z) (up z)
upward p d x o e =
    rw e (let f = ceil_parts (x *ℤ pos p) d o in
    let u = multiple_up x p in
    let v = multiple_dn x p in
    record { low = omega (arith, f.high); high = omega (arith, f.low) })

-- |x| ≤ M and M p ≤ N d give |z| ≤ N
module _ (p d xu xd zu zd M N : ℕ) (o : 0 < d) (h : Down p d xu xd zu zd) (s : xu ≤ M) (t : xd ≤ M) (l : M * p ≤ N * d) where
  bound_plus : zu ≤ zd + N
  bound_plus = le_of_mul-le-mul_right {k = d} (omega (arith, h.low, mul-le-mul_right p s)) o

  bound_minus : zd ≤ zu + N
  bound_minus = let r : zd < zu + N + 1 = lt_of_mul-lt-mul_right d (omega (arith, h.high, mul-le-mul_right p t)) in omega arith

module _ (p d : ℕ) (a r : Log) (o : 0 < d) (v : Ordered a) (l : r.lo ≡ floor_z (a.lo *ℤ pos p) d) (h : r.hi ≡ ceil_z (a.hi *ℤ pos p) d) where
  lower : Down p d (up a.lo) (dn a.lo) (up r.lo) (dn r.lo)
  lower = downward p d a.lo o l

  upper : Down p d (dn a.hi) (up a.hi) (dn r.hi) (up r.hi)
  upper = upward p d a.hi o h

  in_order : Ordered r
  in_order = record { ordered = le_of_mul-le-mul_right {k = d} (omega (arith, lower.low, upper.low, mul-le-mul_right p v.ordered)) o }

  near : (W U : ℕ) → Narrow a W → W * p ≤ U * d → up r.hi + dn r.lo < up r.lo + dn r.hi + U + 2
  near W U w k = lt_of_mul-lt-mul_right d (omega (arith, lower.high, upper.high, mul-le-mul_right p w.narrow))

  no_larger : (M N : ℕ) → Small a M → M * p ≤ N * d → Small r N
  no_larger M N s k =
      let i = one_sided r.lo (bound_plus p d _ _ _ _ M N o lower s.lo_up s.lo_dn k) (bound_minus p d _ _ _ _ M N o lower s.lo_up s.lo_dn k) in
      let j = one_sided r.hi (bound_minus p d _ _ _ _ M N o upper s.hi_dn s.hi_up k) (bound_plus p d _ _ _ _ M N o upper s.hi_dn s.hi_up k) in
      record { lo_up = i.0; lo_dn = i.1; hi_up = j.0; hi_dn = j.1 }

  pub scaled : Scaled p d a r
  unfolding bracket
  scaled =
      record {
        ordered = in_order;
        holds = λ c q e m.
            record {
              above = ⊑_trans (multiple_below c p d e o a.lo r.lo lower.low) (scale_mono (from_zero_lem c p d e o) m.above);
              below =
                  ⊑_trans (scale_mono (from_zero_lem c p d e o) m.below)
                  (multiple_above c p d e o a.hi r.hi (omega (arith, upper.low)));
            };
        width = λ W U w k. record { narrow = omega (arith, near W U w k) };
        small = no_larger;
      }
