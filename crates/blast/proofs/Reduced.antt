-- Rx from E, P0 and r: what the calls of `reduced_distance` promise, put together. Assumes nothing.
use Prim.Native.Nat.{ℕ, ◌≤◌}
use native.Mathlib.Omega.{arith}
use Rattle.exact.specs.Fraction.{whole, of_ratio}
use Rattle.span.specs.declared.Span.{Span}
use Rattle.span.specs.Spans.{fraction, whole_f, Width, Whole, FractionOf, Divisible, Quotient}
use Rattle.span.specs.Enclosing.{Encloses, whole_encloses, quotient_encloses, wider, divisor}
use Rattle.guidance.specs.declared.Case.{Case}
use Rattle.guidance.specs.declared.Cloud.{Cloud}
use Rattle.guidance.specs.declared.settings.Setting.{Setting}
use Rattle.guidance.specs.Cases.{Accepted}
use Rattle.guidance.specs.Clouds.{energy}
use Rattle.guidance.specs.Distances.{metres}
use Rattle.guidance.specs.Waves.{number, reduced_distance}
use Rattle.guidance.specs.CloudWords.{CloudOf}
use Rattle.blast.specs.Windows.{energy_window, distance_window}
use Rattle.blast.specs.Promises.{Enclosure, Ready}
use Rattle.blast.specs.declared.Explosion.{Explosion}
use Rattle.blast.specs.Intermediates.{Seen, Worded, EnergySpan, Rootable, CubeRoot}
use Rattle.blast.proofs.Joules.{number_encloses}

pub air_encloses : {air : ℕ} {p : Span} → Whole air p → (n : ℕ) → Encloses p (number (whole air)) n
unfolding whole of_ratio whole_f
air_encloses w n = whole_encloses w n

metres_encloses : (c : Case) {r : Span} → FractionOf c.distance 100 r → (n : ℕ) → Encloses r (number (metres c)) n
unfolding metres of_ratio fraction
metres_encloses c {r} f n = number_encloses (metres c) r (f.holds _) n

-- of an accepted case in a setting
pub ready : (at : Setting) → Accepted at.air at.case → Ready at.case at.cloud at.air
ready at a = record { accepted = a; cloud = at.placed.cloud; pressure = at.placed.pressure }

-- of an explosion, with its Rx
pub seen : (x : Explosion) → Seen x.at.case x.at.cloud x.at.air x.distance
seen x = record { ready = ready x.at x.accepted; distance = x.reduced }

pub worded : {c : Case} {k : Cloud} → CloudOf c k → Worded k
worded h = record { joules = h.joules; parts = h.parts; parts_most = h.parts_most }

module _ {c : Case} {k : Cloud} {air : ℕ} {e p : Span} (h : Ready c k air) (en : EnergySpan k e) (w : Whole air p) where
  joules : Enclosure (number (energy c)) energy_window e
  joules = en.energy c h.cloud

  pub air_least : 1009 ≤ p.e
  air_least = w.least 15 (omega (arith, h.pressure.least))

  pub air_most : p.e ≤ 1010
  air_most = w.most 17 (omega (arith, h.pressure.most))

  pub share_divisible : Divisible e p
  share_divisible =
      record {
        left = joules.normal;
        right = w.normal;
        divisor = divisor w.normal w.width (omega arith);
        least = omega (arith, air_most, joules.least);
        most = omega (arith, joules.most);
      }

  module _ {s : Span} (q : Quotient e p s) where
    narrow : Width s 17
    narrow = q.width 11 2 joules.width w.width

    pub share_rootable : Rootable s
    share_rootable =
        record {
          normal = q.normal;
          narrow = wider (omega arith) narrow;
          least = omega (arith, q.least, joules.least, air_most);
          most = omega (arith, q.most, joules.most, air_least);
        }

    module _ {t r : Span} (u : CubeRoot s t) (f : FractionOf c.distance 100 r) where
      root_narrow : Width t 43
      root_narrow = u.width 17 12 narrow (omega arith) (omega arith)

      metres_least : 987 ≤ r.e
      metres_least = omega (arith, f.least 0 7 h.accepted.fields.distance (omega arith))

      metres_most : r.e ≤ 1009
      metres_most = omega (arith, f.most 20 6 (omega (arith, h.accepted.fields.distance_most)) (omega arith))

      pub distance_divisible : Divisible r t
      distance_divisible =
          record {
            left = f.normal;
            right = u.normal;
            divisor = divisor u.normal root_narrow (omega arith);
            least = omega (arith, u.most, metres_least);
            most = omega (arith, metres_most);
          }

      pub distance_result : {x : Span} → Quotient r t x → Enclosure (reduced_distance air c) distance_window x
      unfolding reduced_distance
      distance_result v =
          record {
            normal = v.normal;
            encloses = λ n l.
                quotient_encloses v (metres_encloses c f n)
                (u.encloses _ n l (quotient_encloses q (joules.encloses n l) (air_encloses w n)));
            width = v.width 8 43 f.width root_narrow;
            least = omega (arith, v.least, metres_least, u.most);
            most = omega (arith, v.most, metres_most, u.least);
          }
