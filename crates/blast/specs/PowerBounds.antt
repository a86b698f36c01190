-- Where P0^(2/3) and E^(1/3) lie, from whole powers of P0 and E. Assumes nothing.
use Rattle.std.specs.Prelude.{ℕ, ◌*◌, ◌≤◌, ◌<◌}
use Rattle.std.proofs.Math.Option.{some}
use native.Mathlib.Omega.{arith}
use Rattle.std.proofs.Common.{mul-le-mul}
use Rattle.exact.specs.Fraction.{Ratio, ◌≼◌, whole, ◌⊕◌, ◌⊗◌, ◌⊖◌, power, of_ratio}
use Rattle.exact.specs.Series.{one_over}
use Rattle.exact.specs.laws.Width.{half}
use Rattle.exact.specs.Formula.{bracket_at}
use Rattle.exact.specs.laws.Containment.{Inside}
use Rattle.exact.proofs.laws.Points.{pair}
use Rattle.enclosure.specs.PowerWindows.{Reached, whole_reached, Bounded, power_between}
use Rattle.guidance.specs.Clouds.{energy}
use Rattle.guidance.specs.Waves.{number, raised, third, two_thirds, thousandths}
use Rattle.guidance.specs.Cases.{Air, Accepted}
use Rattle.guidance.specs.declared.Case.{Case}
use Rattle.guidance.proofs.laws.Domain.{heated, least_energy, energy_least, energy_most}

-- P0^(2/3)

pub air_reached : {air : ℕ} → Air air → Reached two_thirds (whole air) 17 12
air_reached {air} a = whole_reached two_thirds air 17 12 (omega (arith, a.least)) (omega (arith, a.most)) (omega arith)

air_bounded : {air : ℕ} → Air air → Bounded two_thirds (whole air) 10 (whole 1300) (whole 2300) (whole 1290) (whole 2310)
unfolding half one_over power whole ◌⊕◌ ◌⊖◌ ◌⊗◌
air_bounded a =
    record {
      from = record { cross = omega (arith, mul-le-mul a.least a.least) };
      to = record { cross = omega (arith, mul-le-mul a.most a.most) };
      lower = record { cross = omega arith };
      upper = record { cross = omega arith };
    }

pub air_between : (air : ℕ) → Air air → (n : ℕ) → 59 ≤ n
    → Inside (bracket_at (raised two_thirds (number (whole air))) n) (some (pair (of_ratio (whole 1290)) (of_ratio (whole 2310))))
air_between air a n l = power_between 10 (omega arith) (air_reached a) (air_bounded a) n l

-- E^(1/3)

above_least : (d n : ℕ) → 15 * d ≤ n * 1000000 → 0 < d → 0 < n
above_least d n h z = omega arith

module _ (E : Ratio) (l : least_energy ≼ E) (m : E ≼ whole 300000000000000) where
  root_reached : Reached third E 49 17
  unfolding whole ◌⊗◌
  root_reached =
      record {
        above = record { above = above_least E.den E.num l.cross E.positive };
        most = record { cross = omega (arith, m.cross) };
        least = record { cross = omega (arith, l.cross) };
        octaves = record { cross = omega arith };
      }

  root_bounded : Bounded third E 10 (thousandths 24) (whole 67000) (thousandths 23) (whole 67200)
  unfolding half one_over power whole ◌⊕◌ ◌⊖◌ ◌⊗◌
  root_bounded =
      record {
        from = record { cross = omega (arith, l.cross) };
        to = record { cross = omega (arith, m.cross) };
        lower = record { cross = omega arith };
        upper = record { cross = omega arith };
      }

pub root_between : {air : ℕ} {c : Case} → Accepted air c → (n : ℕ) → 79 ≤ n
    → Inside (bracket_at (raised third (number (energy c))) n) (some (pair (of_ratio (thousandths 23)) (of_ratio (whole 67200))))
root_between {c = c} g n l =
    let least = energy_least c (heated g) in
    let most = energy_most c (heated g) in
    power_between 10 (omega arith) (root_reached (energy c) least most) (root_bounded (energy c) least most) n l
