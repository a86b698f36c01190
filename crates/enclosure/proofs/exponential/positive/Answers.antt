-- `enclosure::exponential::positive` meets its contract. Assumes nothing.
use mathlib.Core.Path.{refl}
use native.Mathlib.Omega.{arith}
use Rattle.enclosure.proofs.ExpProducts.{product_in, all_digits_lem}
use Rattle.enclosure.proofs.exponential.positive.Goals as goal

pub returns : goal.returns
returns c =
    product_in 11303 24 1739 c.mul.ensures c.whole_part.ensures c.part.ensures
    (all_digits_lem _ _ _ (omega arith)) (omega arith) refl (omega arith)
