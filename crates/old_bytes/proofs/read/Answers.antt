-- `old_bytes::read` meets its contract: each field is what stands at its place. Assumes nothing.
use mathlib.Core.Path.{refl}
use Rattle.old_bytes.specs.Bytes.{old_of}
use Rattle.old_bytes.proofs.read.Goals as goal

pub returns : goal.returns
unfolding old_of
returns c =
    rw (
      c.number_at.ensures.number,
      c.number_at-2.ensures.number,
      c.number_at-3.ensures.number,
      c.number_at-4.ensures.number,
      c.double_at.ensures,
      c.double_at-2.ensures,
      c.double_at-3.ensures,
      c.double_at-4.ensures,
      c.double_at-5.ensures,
      c.double_at-6.ensures,
    )
    refl
