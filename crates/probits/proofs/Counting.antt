-- From a logarithm to whole thousandths: 5 - (k/10000) ln s, and -12.6 + 1.524 ln ΔP. Assumes nothing.
use mathlib.Core.Path.{◌≡◌}
use Prim.Native.Nat.{ℕ, ◌+◌, ◌*◌, ◌^◌}
use native.Mathlib.Omega.{arith}
use lib.IntN.{ℤ, pos, negsuc}
use Rattle.span.specs.declared.Span.{Span}
use Rattle.fixed.specs.declared.Log.{Log}
use Rattle.fixed.specs.Logs.{Narrow, Small}
use Rattle.fixed.specs.Promises.{Summands, LogSum, LogDifference, Scalable, Scaled}
use Rattle.fixed.specs.Millis.{floor_milli, ceil_milli}
use Rattle.signed.specs.Reading.{R}
use Rattle.signed.proofs.Magnitude.{own}
use Rattle.fixed.specs.Thousandths.{thousandths, millis_hold}
use Rattle.fixed.specs.Enclosing.{constant_encloses, sum_encloses, difference_encloses, scaled_encloses, ratio_value, wider, larger}
use Rattle.enclosure.specs.Promises.{reach, Logarithm}
use Rattle.enclosure.specs.Enclosing.{logarithm_encloses, logarithm_small}
use Rattle.guidance.specs.Waves.{thousandths as thousandth_parts}
use Rattle.guidance.specs.Probits.{probit4_at}
use Rattle.probits.specs.Promises.{Pressure, Thousandth, Probit4}
use Rattle.probits.specs.Terms.{Counted, CountedIn, Summed, FallingProbit}
use Rattle.probits.specs.Coefficients.{five, minus_twelve_six}

pub counted : {y : Log} {l u : ℤ} → Counted y → l ≡ floor_milli y → u ≡ ceil_milli y → CountedIn y l u
counted k d e =
    let t = thousandths k.ordered d e in
    let s = t.small (2 ^ 43) 8192000 k.small (omega arith) in
    record {
      holds = λ x n o h. millis_hold t o h;
      closed =
          record {
            ordered = t.ordered;
            narrow = t.narrow (2 ^ 20) k.narrow (omega arith);
            lower_up = omega (arith, s.lo_up);
            lower_dn = omega (arith, s.lo_dn);
            upper_up = omega (arith, s.hi_up);
            upper_dn = omega (arith, s.hi_dn);
          };
    }

-- the ends are read back from their words
pub reads_lower : {l u : ℤ} → Thousandth l u → R l ≡ l
reads_lower k = own (record { plus = omega (arith, k.lower_up); minus = omega (arith, k.lower_dn) })

pub reads_upper : {l u : ℤ} → Thousandth l u → R u ≡ u
reads_upper k = own (record { plus = omega (arith, k.upper_up); minus = omega (arith, k.upper_dn) })

abbrev pub Five : Log
Five = record { lo = pos 5368709120; hi = pos 5368709120 }

abbrev pub MinusTwelveSix : Log
MinusTwelveSix = record { lo = negsuc 13529146982; hi = negsuc 13529146981 }

-- 5 - (k/10000) ln s
module _ {s : Span} {k : ℕ} (m : Summed s k) {l : Log} (g : Logarithm s l) where
  small : Small l (reach 820 + 25000 + 18)
  small = logarithm_small 820 g m.narrow (omega arith) (omega (arith, m.least)) (omega (arith, m.most))

  pub sum_scalable : Scalable k l
  sum_scalable = record { left = g.ordered; small = larger (omega arith) small; factor = omega (arith, m.factor) }

  module _ {y : Log} (t : Scaled k 10000 l y) where
    narrow : Narrow y 143605
    narrow = t.width 25018 143604 (g.width 25000 m.narrow (omega arith)) (omega (arith, m.factor))

    scaled : Small y (7 * 2 ^ 40)
    scaled = t.small (2 ^ 40) (7 * 2 ^ 40) (larger (omega arith) small) (omega (arith, m.factor))

    pub falling_summands : Summands Five y
    falling_summands = record { left = five.ordered; right = t.ordered; small_left = omega arith; small_right = larger (omega arith) scaled }

    module _ {z : Log} (d : LogDifference Five y z) where
      pub falling_counted : Counted z
      falling_counted =
          record {
            ordered = d.ordered;
            narrow = wider (omega arith) (d.width 1 143605 five.width narrow);
            small = larger (omega arith) (d.small (2 ^ 33) (7 * 2 ^ 40) (omega arith) scaled);
          }

      pub falling_probit : {lo hi : ℤ} → CountedIn z lo hi → FallingProbit s k lo hi
      falling_probit c =
          record {
            holds = λ q x n i o h.
                c.holds _ n (omega arith)
                (difference_encloses d (constant_encloses five n) (scaled_encloses t (ratio_value q k 10000 i) (logarithm_encloses g o h)));
            closed = c.closed;
          }

-- -12.6 + 1.524 ln ΔP
module _ {p : Span} (m : Pressure p) where
  module _ {l : Log} (g : Logarithm p l) where
    pressure_small : Small l (reach 31 + 2048 + 18)
    pressure_small = logarithm_small 31 g m.narrow (omega arith) (omega (arith, m.least)) (omega (arith, m.most))

    pub pressure_scalable : Scalable 15240 l
    pressure_scalable = record { left = g.ordered; small = larger (omega arith) pressure_small; factor = omega arith }

    module _ {y : Log} (t : Scaled 15240 10000 l y) where
      pressure_narrow : Narrow y 3150
      pressure_narrow = t.width 2066 3149 (g.width 2048 m.narrow (omega arith)) (omega arith)

      pressure_scaled : Small y (2 ^ 36)
      pressure_scaled = t.small (reach 31 + 2048 + 18) (2 ^ 36) pressure_small (omega arith)

      pub rising_summands : Summands MinusTwelveSix y
      rising_summands =
          record { left = minus_twelve_six.ordered; right = t.ordered; small_left = omega arith; small_right = larger (omega arith) pressure_scaled }

      module _ {z : Log} (d : LogSum MinusTwelveSix y z) where
        pub rising_counted : Counted z
        rising_counted =
            record {
              ordered = d.ordered;
              narrow = wider (omega arith) (d.width 1 3150 minus_twelve_six.width pressure_narrow);
              small = larger (omega arith) (d.small (2 ^ 34) (2 ^ 36) (omega arith) pressure_scaled);
            }

        pub rising_probit : {lo hi : ℤ} → CountedIn z lo hi → Probit4 p lo hi
        unfolding probit4_at
        rising_probit c =
            record {
              holds = λ x n o h.
                  c.holds _ n (omega arith)
                  (sum_encloses d (constant_encloses minus_twelve_six n)
                  (scaled_encloses t (ratio_value (thousandth_parts 1524) 15240 10000 (omega arith)) (logarithm_encloses g o h)));
              closed = c.closed;
            }
