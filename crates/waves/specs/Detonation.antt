-- What the detonation functions ask of a span of the reduced distance, and what they promise of their results (document 01, "Wave
-- formulas"). The interval ends are open but for that.
use Rattle.std.specs.Prelude.{ℕ, ◌+◌, ◌*◌, ◌^◌, ◌≤◌}
use Rattle.exact.specs.Formula.{Formula}
use Rattle.span.specs.declared.Span.{Span}
use Rattle.span.specs.Spans.{Normal, Width}
use Rattle.span.specs.Enclosing.{Encloses}
use Rattle.guidance.specs.Waves.{aerosol_pressure, aerosol_impulse}
use Rattle.waves.specs.EndBounds.{LowerAtMost, UpperAtLeast}

-- a narrow span of a reduced distance from n/d to 24.1
pub record Distance (n d : ℕ) (r : Span) : Type 0 where
  pub normal : Normal r
  pub narrow : Width r (2 ^ 14)
  pub near : UpperAtLeast r n d
  pub far : LowerAtMost r 241 10

-- heterogeneous: Px, up to 8
pub record AerosolPressure (r s : Span) : Type 0 where
  pub normal : Normal s
  pub encloses : (x : Formula) (n : ℕ) → Encloses r x n → Encloses s (aerosol_pressure x) n
  pub width : (D : ℕ) → Width r D → Width s (3 * D + 15)
  pub least : 985 ≤ s.e
  pub most : s.e ≤ 997

-- heterogeneous: Ix, up to 1
pub record AerosolImpulse (r s : Span) : Type 0 where
  pub normal : Normal s
  pub encloses : (x : Formula) (n : ℕ) → Encloses r x n → Encloses s (aerosol_impulse x) n
  pub width : (D : ℕ) → Width r D → Width s (D + 5)
  pub least : 982 ≤ s.e
  pub most : s.e ≤ 994
