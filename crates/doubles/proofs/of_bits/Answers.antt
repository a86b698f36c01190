-- `doubles::of_bits` meets its contract: above infinity's pattern, the sign apart, stand the NaNs. Assumes nothing.
use Rattle.doubles.specs.laws.Patterns.{one_nan, no_nan_pattern}
use Rattle.doubles.proofs.of_bits.Goals as goal

pub float_from_bits-result : goal.float_from_bits-result
float_from_bits-result c =
    no_nan_pattern c.args.bits c.if-bits-gt9218868437227405312.false

pub returns-then-bits-gt9218868437227405312 : goal.returns-then-bits-gt9218868437227405312
returns-then-bits-gt9218868437227405312 c =
    one_nan c.args.bits c.if-bits-gt9218868437227405312.true
