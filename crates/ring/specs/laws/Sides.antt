-- What an interval at a distance says of a threshold, by its lower and by its upper end. Assumes nothing.
use Rattle.std.specs.Prelude.{ℕ, ◌^◌, ◌≤◌, ◌<◌, ◌≡◌}
use Rattle.std.proofs.Math.Decide.{dec_le}
use Rattle.std.proofs.Common.{arith}
use Rattle.exact.specs.Fraction.{◌⊑◌}
use Rattle.exact.proofs.laws.OneValue.{one_value}
use Rattle.span.specs.Spans.{whole_f}
use Rattle.guidance.specs.declared.Case.{Case}
use Rattle.guidance.specs.Waves.{overpressure}
use Rattle.layout.specs.declared.Interval.{Interval}
use Rattle.blast.specs.Promises.{Ended}
use Rattle.receptor.specs.Receptor.{moved}
use Rattle.ring.specs.declared.Side.{Side}
use Rattle.ring.specs.declared.Side.TheVariants.{Lower, Upper}
use Rattle.ring.specs.Searching.{end_of, PressureAt, Reaches, Below}

-- from what a call gives
module _ {side : Side} {air : ℕ} {c : Case} {t d : ℕ} {e : Interval ℕ} (h : Ended (overpressure air (moved c d)) (2 ^ 24) e) where
  pub reached_at : {n : ℕ} → n ≡ end_of side e → t ≤ n → Reaches side air c t d
  reached_at q k = record { pressure = record { ends = e; ended = h }; reaches = omega arith }

  pub below_at : {n : ℕ} → n ≡ end_of side e → n < t → Below side air c t d
  below_at q k = record { pressure = record { ends = e; ended = h }; below = omega arith }

whole_order : (m n : ℕ) → whole_f m ⊑ whole_f n → m ≤ n
unfolding whole_f
whole_order m n h = omega (arith, h.cross)

module _ {air : ℕ} {c : Case} {d : ℕ} where
  -- the lower end is at most the upper end
  pub in_order : (p : PressureAt air c d) → p.ends.lower ≤ p.ends.upper
  in_order p = whole_order _ _ p.ended.holds.ordered

  -- two intervals at one distance hold the same number
  pub overlap : (p q : PressureAt air c d) → p.ends.lower ≤ q.ends.upper
  overlap p q = whole_order _ _ (one_value p.ended.holds q.ended.holds).first

  pub upper_reaches : {t : ℕ} → Reaches Lower air c t d → Reaches Upper air c t d
  upper_reaches r = record { pressure = r.pressure; reaches = omega (arith, r.reaches, in_order r.pressure) }

  pub lower_below : {t : ℕ} → Below Upper air c t d → Below Lower air c t d
  lower_below r = record { pressure = r.pressure; below = omega (arith, r.below, in_order r.pressure) }

  -- where the lower end of one is below the threshold and the upper end of another reaches it, both are so of one of the two
  pub both : {t : ℕ} → Below Lower air c t d → Reaches Upper air c t d
      → (p : PressureAt air c d) × (p.ends.lower < t) × (t ≤ p.ends.upper)
  both {t} b r = go (dec_le t r.pressure.ends.lower)
    where
      go : Dec (t ≤ r.pressure.ends.lower) → (p : PressureAt air c d) × (p.ends.lower < t) × (t ≤ p.ends.upper)
      go (yes k) = (b.pressure, b.below, omega (arith, k, overlap r.pressure b.pressure))
      go (no k) = (r.pressure, omega arith, r.reaches)
