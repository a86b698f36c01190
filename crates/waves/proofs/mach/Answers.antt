-- `waves::mach` meets its contract. Assumes nothing.
use native.Mathlib.Omega.{arith}
use Rattle.exact.specs.Fraction.{whole}
use Rattle.span.specs.declared.Span.{Span}
use Rattle.span.specs.Spans.{Divisible, Quotient}
use Rattle.span.specs.Enclosing.{constant_encloses, quotient_encloses, wider}
use Rattle.waves.specs.EndBounds.{lower_coarser, constant_upper, quotient_lower, exponent_most_of}
use Rattle.waves.specs.Coefficients.{sound_speed, sound_speed_lem}
use Rattle.waves.specs.Deflagration.{Speed, Mach}
use Rattle.waves.proofs.mach.Goals as goal

module _ {v : Span} (x : Speed v) where
  divides : Divisible v sound_speed
  divides =
      let k = exponent_most_of x.normal (wider (omega arith) x.narrow) x.most (omega arith) 9 (omega arith) in
      omega (arith, x.normal, x.least)

  result : {w : Span} → Quotient v sound_speed w → Mach v w
  unfolding whole
  result q =
      record {
        normal = q.normal;
        encloses = λ y n h. quotient_encloses q h (constant_encloses sound_speed_lem n);
        width = λ D w. wider (omega arith) (q.width D 1 w sound_speed_lem.width);
        least = omega (arith, x.least, q.least);
        most = lower_coarser (quotient_lower x.normal sound_speed_lem.normal q x.most (constant_upper (whole 340) sound_speed_lem)) (omega arith) (omega arith);
      }

pub quo-requires : goal.quo-requires
quo-requires c =
    divides c.requires

pub returns : goal.returns
returns c =
    result c.requires c.quo.ensures
