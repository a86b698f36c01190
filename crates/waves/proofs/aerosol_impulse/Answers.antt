-- `waves::aerosol_impulse` meets its contract. Assumes nothing.
use native.Mathlib.Omega.{arith}
use Rattle.span.specs.declared.Span.{Span}
use Rattle.span.specs.Spans.{Quotient}
use Rattle.span.specs.Enclosing.{constant_encloses, quotient_encloses, wider}
use Rattle.guidance.specs.Waves.{aerosol_impulse}
use Rattle.waves.specs.Coefficients.{aerosol_push, aerosol_push_lem}
use Rattle.waves.specs.Detonation.{Distance, AerosolImpulse}
use Rattle.waves.proofs.Distances.{window, divides}
use Rattle.waves.proofs.aerosol_impulse.Goals as goal

module _ {r : Span} (x : Distance 19 100 r) where
  result : {s : Span} → Quotient aerosol_push r s → AerosolImpulse r s
  unfolding aerosol_impulse
  result q =
      let k = window x (omega arith) (omega arith) in
      record {
        normal = q.normal;
        encloses = λ y n h. quotient_encloses q (constant_encloses aerosol_push_lem n) h;
        width = λ D w. wider (omega arith) (q.width 1 D aerosol_push_lem.width w);
        least = omega arith;
        most = omega arith;
      }

pub quo-requires : goal.quo-requires
quo-requires c =
    divides (window c.requires (omega arith) (omega arith)) (omega arith) (omega arith) (omega arith)

pub returns : goal.returns
returns c =
    result c.requires c.quo.ensures
