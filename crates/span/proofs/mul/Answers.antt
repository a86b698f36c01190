-- `span::mul` meets its contract. Assumes nothing.
use Rattle.std.proofs.Common.{refl, arith}
use Rattle.span.proofs.Operations.{product_cuttable, product_rounded}
use Rattle.span.proofs.mul.Goals as goal

pub cut-requires : goal.cut-requires
cut-requires c =
    product_cuttable _ _ _ _ _ _ c.requires (record { low = refl; high = refl; exponent = omega arith }) refl

pub returns : goal.returns
returns c =
    product_rounded _ _ _ _ _ _ c.requires (record { low = refl; high = refl; exponent = omega arith }) c.cut.ensures
