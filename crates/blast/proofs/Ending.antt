-- For the callers: the whole numbers around ΔP and I hold the exact values, and are closed. Assumes nothing.
use Rattle.std.specs.Prelude.{ℕ, ◌+◌, ◌*◌, ◌^◌, ◌≤◌, ◌<◌, pos}
use Rattle.std.proofs.Common.{arith, lt_of_mul-lt-mul_right}
use Rattle.exact.specs.Fraction.{◌⊑◌, ◌⊠◌}
use Rattle.exact.specs.Formula.{Formula}
use Rattle.exact.specs.Between.{whole_z}
use Rattle.exact.proofs.laws.Meeting.{any_two_meet}
use Rattle.exact.proofs.laws.Between.{between}
use Rattle.span.specs.declared.Span.{Span}
use Rattle.span.specs.Spans.{unit, whole_f}
use Rattle.span.specs.Enclosing.{wider}
use Rattle.span.specs.Wholes.{wholes_hold, wholes_apart}
use Rattle.enclosure.specs.Promises.{enough}
use Rattle.layout.specs.declared.Interval.{Interval}
use Rattle.waves.specs.EndBounds.{LowerAtMost, value_most_of}
use Rattle.blast.specs.Windows.{Window}
use Rattle.blast.specs.Promises.{Enclosure, PressureSpan, ImpulseSpan, Ended, Roundable, Rounded}
use Rattle.blast.specs.WaveEnds.{Closed, WaveEnds}

below_top : (u t H U : ℕ) → H ≤ t * U → u * U < H + U → u < t + 1
below_top u t H U h k = lt_of_mul-lt-mul_right U (omega arith)

module _ {x : Formula} {w : Window} {n : ℕ} {s : Span} {e : Interval ℕ} (top : ℕ) (v : Enclosure x w s) (f : Rounded s e) where
  ended : w.width ≤ 2 ^ 20 → Closed e.lower e.upper → LowerAtMost s n 1 → (t : ℕ) → 512 * n ≤ 511 * t * 1 → t < top → Ended x top e
  ended d closed m t i j =
      record {
        holds = wholes_hold {n = enough} (omega arith) f.lower f.upper (v.encloses enough (omega arith));
        meet = any_two_meet x;
        closed = closed;
        small =
            let high = value_most_of (wider d v.width) m (omega arith) t i in
            let b = below_top e.upper t (s.hi * 2 ^ s.e) unit high f.upper.near in
            omega (arith, b, j);
      }

module _ {x : Formula} {s : Span} where
  pub pressure_roundable : PressureSpan x s → Roundable s
  pressure_roundable p = record { normal = p.value.normal; most = omega (arith, p.value.most) }

  pub impulse_roundable : ImpulseSpan x s → Roundable s
  impulse_roundable p = record { normal = p.value.normal; most = omega (arith, p.value.most) }

  -- the width that is promised is narrow enough for the rule

  pressure_closed : {e : Interval ℕ} → PressureSpan x s → Rounded s e → Closed e.lower e.upper
  pressure_closed p f = wholes_apart _ f.lower f.upper p.value.width (omega arith)

  impulse_closed : {e : Interval ℕ} → ImpulseSpan x s → Rounded s e → Closed e.lower e.upper
  impulse_closed p f = wholes_apart _ f.lower f.upper p.value.width (omega arith)

  pub pressure_ended : {e : Interval ℕ} → PressureSpan x s → Rounded s e → Ended x (2 ^ 24) e
  pressure_ended p f = ended (2 ^ 24) p.value f (omega arith) (pressure_closed p f) p.lower 14200000 (omega arith) (omega arith)

  pub impulse_ended : {e : Interval ℕ} → ImpulseSpan x s → Rounded s e → Ended x (2 ^ 24) e
  impulse_ended p f = ended (2 ^ 24) p.value f (omega arith) (impulse_closed p f) p.lower 15000000 (omega arith) (omega arith)

-- such whole numbers are ends by the width rule

lower_whole : (n : ℕ) → whole_z (pos n) ⊑ whole_z (pos 1) ⊠ whole_f n
unfolding whole_f whole_z ◌⊠◌
lower_whole n = record { cross = omega arith }

upper_whole : (n : ℕ) → whole_z (pos 1) ⊠ whole_f n ⊑ whole_z (pos n)
unfolding whole_f whole_z ◌⊠◌
upper_whole n = record { cross = omega arith }

pub wave_ends : {x : Formula} {e : Interval ℕ} → Ended x (2 ^ 24) e → WaveEnds x e
wave_ends {e = e} h =
    record {
      value = between 1 h.holds (lower_whole e.lower) (upper_whole e.upper);
      closed = h.closed;
      fits = omega (arith, h.small);
    }
