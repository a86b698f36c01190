-- The exponents of a reduced distance and of a Mach number from their bounds, and what the operations ask of R, R² and R³.
-- Assumes nothing.
use Prim.Native.Nat.{ℕ, ◌*◌, ◌^◌, ◌≤◌, ◌<◌}
use native.Mathlib.Omega.{arith}
use Rattle.span.specs.declared.Span.{Span}
use Rattle.span.specs.Spans.{Normal, Width, Factors, Product, Divisible}
use Rattle.span.specs.Enclosing.{wider, divisor}
use Rattle.waves.specs.EndBounds.{exponent_most_of, exponent_least_of}
use Rattle.waves.specs.Detonation.{Distance}
use Rattle.waves.specs.Deflagration.{Deflagrating}

-- from 2^-4 up to 2^6, and narrow
pub record Window (r : Span) : Type 0 where
  pub normal : Normal r
  pub narrow : Width r (2 ^ 14)
  pub least : 990 ≤ r.e
  pub most : r.e ≤ 999

pub window : {n d : ℕ} {r : Span} → Distance n d r → 0 < n → d ≤ 2 ^ 3 * n → Window r
window x z l =
    let up = exponent_least_of x.normal x.near z 3 l in
    record {
      normal = x.normal;
      narrow = x.narrow;
      least = omega arith;
      most = exponent_most_of x.normal (wider (omega arith) x.narrow) x.far (omega arith) 5 (omega arith);
    }

pub mach_exponent : {w g r : Span} → Deflagrating w g r → w.e ≤ 995
mach_exponent x = exponent_most_of x.mach (wider (omega arith) x.mach_narrow) x.mach_most (omega arith) 1 (omega arith)

-- R, R² and R³ are narrow, so their lower ends are far from 0: each may divide a coefficient from 2^-9 to 1

module _ {r : Span} (w : Window r) where
  pub squares : Factors r r
  squares = record { left = w.normal; right = w.normal; least = omega arith; most = omega arith }

  pub divides : {a : Span} → Normal a → 985 ≤ a.e → a.e ≤ 993 → Divisible a r
  divides m l h =
      record { left = m; right = w.normal; divisor = divisor w.normal w.narrow (omega arith); least = omega arith; most = omega arith }

  module _ {square : Span} (p : Product r r square) where
    square_narrow : Width square (2 ^ 16)
    square_narrow = wider (omega arith) (p.width _ _ w.narrow w.narrow)

    pub cubes : Factors square r
    cubes = record { left = p.normal; right = w.normal; least = omega (arith, p.least); most = omega (arith, p.most) }

    pub square_divides : {a : Span} → Normal a → 985 ≤ a.e → a.e ≤ 993 → Divisible a square
    square_divides m l h =
        record { left = m; right = p.normal; divisor = divisor p.normal square_narrow (omega arith); least = omega (arith, p.most); most = omega arith }

    pub cube_divides : {a cube : Span} → Product square r cube → Normal a → 985 ≤ a.e → a.e ≤ 993 → Divisible a cube
    cube_divides q m l h =
        record {
          left = m;
          right = q.normal;
          divisor = divisor q.normal (q.width _ _ square_narrow w.narrow) (omega arith);
          least = omega (arith, p.most, q.most);
          most = omega arith;
        }
