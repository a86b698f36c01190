-- `old_bytes::put_field` meets its contract: the double is stored after its tag. Assumes nothing.
use mathlib.Core.Path.{refl, sym, subst}
use mathlib.Core.Bool.{not}
use mathlib.Core.List.{◌++◌}
use lib.Dec.{T}
use lib.Ieee.{Float, binary64, is_nan, to_bits}
use Rattle.byte_numbers.specs.Numbers.{one, eight}
use Rattle.byte_numbers.specs.laws.Storing.{and_then, stored_as}
use Rattle.doubles.specs.laws.Values.{no_nan, usable_finite}
use Rattle.old_case.specs.Fields.{value_of}
use Rattle.old_bytes.specs.Bytes.{field_bytes}
use Rattle.old_bytes.proofs.put_field.Goals as goal

pub float_to_bits-value : goal.float_to_bits-value
float_to_bits-value c =
    subst (λ (x : Float). T (not (is_nan x))) (sym c.value.ensures) (no_nan (value_of c.args.f) (usable_finite (value_of c.args.f) c.requires.1))

pub returns : goal.returns
unfolding field_bytes one
returns c =
    stored_as (and_then c.put.ensures c.put-2.ensures refl)
    (λ k. one (c.tag.ensures k) ++ eight (to_bits binary64 (c.value.ensures k)))
