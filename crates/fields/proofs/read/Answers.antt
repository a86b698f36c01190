-- `fields::read` meets its contract: each field is the number at its place. Assumes nothing.
use mathlib.Core.Path.{refl}
use Rattle.fields.specs.Bytes.{fields_of}
use Rattle.fields.proofs.read.Goals as goal

pub returns : goal.returns
unfolding fields_of
returns c =
    rw (
      c.air_in-air.ensures,
      c.number_at.ensures.number,
      c.number_at-2.ensures.number,
      c.number_at-3.ensures.number,
      c.number_at-4.ensures.number,
      c.number_at-5.ensures.number,
      c.number_at-6.ensures.number,
      c.number_at-7.ensures.number,
      c.number_at-8.ensures.number,
      c.number_at-9.ensures.number,
      c.number_at-10.ensures.number,
    )
    refl
