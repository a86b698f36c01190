-- `doubles::rounded_by` meets its contract: each need is a law of the pattern's fields. Assumes nothing.
-- what owning an `f64` tells: the format holds it
use mathlib.Core.Path.{◌≡◌, sym, subst}
use mathlib.Core.Bool.{true}
use lib.Dec.{T}
use lib.Ieee.{Float, binary64, fits}
use Rattle.doubles.specs.laws.Bits.{is_no_nan, tiny, digits_fit, product_fits, to_the_right, halves_fit, half_up}
use Rattle.doubles.proofs.rounded_by.Goals as goal

held : (x : Float) → fits binary64 x ≡ true → T (fits binary64 x)
held x e = subst T (sym e) tt

pub float_to_bits-bits : goal.float_to_bits-bits
float_to_bits-bits c =
    is_no_nan c.args.scale c.args.x (held c.args.x c.well_formed.1.0.1) c.requires.0 c.requires.1

pub returns-then-exponent-le1010 : goal.returns-then-exponent-le1010
returns-then-exponent-le1010 c =
    tiny c.args.scale c.args.x (held c.args.x c.well_formed.1.0.1) c.requires.0 c.requires.1 c.if-exponent-le1010.true

pub overflow_add-digits : goal.overflow_add-digits
overflow_add-digits c =
    record { fits = digits_fit c.args.scale c.args.x (held c.args.x c.well_formed.1.0.1) c.requires.0 c.requires.1 }

pub overflow_mul-halves : goal.overflow_mul-halves
overflow_mul-halves c =
    record { fits = product_fits c.args.scale c.args.x (held c.args.x c.well_formed.1.0.1) c.requires.0 c.requires.1 }

pub overflow_sub-halves : goal.overflow_sub-halves
overflow_sub-halves c =
    to_the_right c.args.scale c.args.x (held c.args.x c.well_formed.1.0.1) c.requires.0 c.requires.1

pub overflow_add-result : goal.overflow_add-result
overflow_add-result c =
    record { fits = halves_fit c.args.scale c.args.x (held c.args.x c.well_formed.1.0.1) c.requires.0 c.requires.1 }

pub returns : goal.returns
returns c =
    half_up c.args.scale c.args.x (held c.args.x c.well_formed.1.0.1) c.requires.0 c.requires.1 c.if-exponent-le1010.false
