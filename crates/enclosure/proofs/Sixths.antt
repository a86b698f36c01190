-- t^(p/6) as e^ of a multiple of ln: what the three calls promise, put together. Assumes nothing.
use Prim.Native.Nat.{ℕ, ◌+◌, ◌^◌, ◌≤◌}
use native.Mathlib.Omega.{arith}
use Rattle.span.specs.declared.Span.{Span}
use Rattle.span.specs.Enclosing.{wider}
use Rattle.fixed.specs.declared.Log.{Log}
use Rattle.fixed.specs.Logs.{Narrow, Small}
use Rattle.fixed.specs.Promises.{Scalable, Scaled}
use Rattle.fixed.specs.Enclosing.{scaled_encloses, ratio_value, larger}
use Rattle.fixed.specs.Enclosing as multiples
use Rattle.enclosure.specs.Promises.{reach, Logarithm, Exponent, Exponential, Powerable, SixthPower}
use Rattle.enclosure.specs.Enclosing.{logarithm_encloses, expo_encloses, logarithm_small}

module _ {t : Span} {p : ℕ} (s : Powerable t p) where
  module _ {l : Log} (g : Logarithm t l) where
    small_log : (k : ℕ) → 993 ≤ t.e + k → t.e ≤ 994 + k → Small l (reach k + 2 ^ 10 + 18)
    small_log k a b = logarithm_small k g s.narrow (omega arith) a b

    small_all : Small l (reach 100 + 2 ^ 10 + 18)
    small_all = small_log 100 (omega (arith, s.least)) (omega (arith, s.most))

    pub scalable : Scalable p l
    scalable = record { left = g.ordered; small = larger (omega arith) small_all; factor = omega (arith, s.sixths) }

    module _ {y : Log} (m : Scaled p 6 l y) where
      small_exponent : Small y (reach 100 + 2 ^ 10 + 18)
      small_exponent = m.small _ _ small_all (omega (arith, s.sixths))

      thin_exponent : Narrow y (2 ^ 10 + 18 + 1)
      thin_exponent = m.width (2 ^ 10 + 18) (2 ^ 10 + 18) (g.width (2 ^ 10) s.narrow (omega arith)) (omega (arith, s.sixths))

      pub exponent : Exponent y
      exponent =
          record {
            ordered = m.ordered;
            narrow = multiples.wider (omega arith) thin_exponent;
            least = omega (arith, small_exponent.lo_dn);
            most = omega (arith, small_exponent.hi_up);
          }

      pub sixth_power : {r : Span} → Exponential y r → SixthPower t p r
      sixth_power x =
          record {
            normal = x.normal;
            encloses = λ a e f n l h. expo_encloses x l (scaled_encloses m (ratio_value a p 6 e) (logarithm_encloses g l h));
            width = λ D U w d e. wider (omega arith) (x.width (U + 1) (m.width (D + 18) U (g.width D w (omega (arith, d))) e));
            least = λ k i a b e. x.least i (m.small _ _ (small_log k a b) e).hi_dn;
            most = λ k i a b e. x.most i (m.small _ _ (small_log k a b) e).hi_up;
          }
