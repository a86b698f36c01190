-- What the deflagration functions ask of their spans, and what they promise of their results (document 01, "Wave formulas").
-- The interval ends are open but for that.
use Rattle.std.specs.Prelude.{cond, ℕ, ◌+◌, ◌*◌, ◌^◌, ◌≤◌, ◌≡◌, refl, eqb}
use Rattle.exact.specs.Formula.{Formula, div}
use Rattle.span.specs.declared.Span.{Span}
use Rattle.span.specs.Spans.{Normal, Width}
use Rattle.span.specs.Enclosing.{Encloses}
use Rattle.guidance.specs.declared.Case.{Case}
use Rattle.guidance.specs.Waves.{number, sound, expansion, falling_pressure, falling_impulse, deflagration_pressure_at, deflagration_impulse_at}
use Rattle.waves.specs.Coefficients.{six_sevenths, three_quarters}
use Rattle.waves.specs.EndBounds.{LowerAtMost}
use Rattle.waves.specs.Detonation.{Distance}

-- 0.83/R - 0.14/R², up to 4
pub record FallingPressure (r s : Span) : Type 0 where
  pub normal : Normal s
  pub encloses : (x : Formula) (n : ℕ) → Encloses r x n → Encloses s (falling_pressure x) n
  pub width : (D : ℕ) → Width r D → Width s (12 * D + 58)
  pub lower : LowerAtMost s 83 33
  pub least : 985 ≤ s.e
  pub most : s.e ≤ 996

-- 0.06/R + 0.01/R² - 0.0025/R³, up to 1
pub record FallingImpulse (r s : Span) : Type 0 where
  pub normal : Normal s
  pub encloses : (x : Formula) (n : ℕ) → Encloses r x n → Encloses s (falling_impulse x) n
  pub width : (D : ℕ) → Width r D → Width s (20 * D + 90)
  pub lower : LowerAtMost s 3 10
  pub least : 981 ≤ s.e
  pub most : s.e ≤ 994

-- V, from 2 to 501 m/s
pub record Speed (v : Span) : Type 0 where
  pub normal : Normal v
  pub narrow : Width v (2 ^ 14)
  pub least : 995 ≤ v.e
  pub most : LowerAtMost v 501 1

-- w = V/C0, up to 3/2
pub record Mach (v w : Span) : Type 0 where
  pub normal : Normal w
  pub encloses : (x : Formula) (n : ℕ) → Encloses v x n → Encloses w (div x sound) n
  pub width : (D : ℕ) → Width v D → Width w (D + 5)
  pub least : 986 ≤ w.e
  pub most : LowerAtMost w 3 2

-- g by the state
unfoldable pub expansion_of : ℕ → Formula
expansion_of state = cond (eqb state 1) (number three_quarters) (number six_sevenths)

pub expansion_of_lem : (c : Case) → expansion c ≡ expansion_of c.state
unfolding expansion expansion_of
expansion_of_lem c = refl

pub record Expansion (state : ℕ) (g : Span) : Type 0 where
  pub normal : Normal g
  pub encloses : (n : ℕ) → Encloses g (expansion_of state) n
  pub width : Width g 1
  pub exponent : g.e ≡ 993

-- what a deflagration asks of w, g and R
pub record Deflagrating (w g r : Span) : Type 0 where
  pub mach : Normal w
  pub mach_narrow : Width w (2 ^ 15)
  pub mach_least : 986 ≤ w.e
  pub mach_most : LowerAtMost w 3 2
  pub expansion : Normal g
  pub expansion_narrow : Width g 1
  pub exponent : g.e ≡ 993
  pub distance : Distance 33 100 r

-- Px = w²g(0.83/R - 0.14/R²), up to 8
pub record DeflagrationPressure (w g r s : Span) : Type 0 where
  pub normal : Normal s
  pub encloses : (x y z : Formula) (n : ℕ) → Encloses w x n → Encloses g y n → Encloses r z n → Encloses s (deflagration_pressure_at x y z) n
  pub width : (C D : ℕ) → Width w C → Width r D → Width s (2 * C + 12 * D + 65)
  pub least : 968 ≤ s.e
  pub most : s.e ≤ 997

-- Ix = wg(1 - 0.4gw)(0.06/R + 0.01/R² - 0.0025/R³), up to 1
pub record DeflagrationImpulse (w g r s : Span) : Type 0 where
  pub normal : Normal s
  pub encloses : (x y z : Formula) (n : ℕ) → Encloses w x n → Encloses g y n → Encloses r z n → Encloses s (deflagration_impulse_at x y z) n
  pub width : (C D : ℕ) → Width w C → Width r D → Width s (5 * C + 20 * D + 135)
  pub least : 970 ≤ s.e
  pub most : s.e ≤ 994
