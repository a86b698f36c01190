-- A half, by which widths are told.
use Rattle.std.proofs.Common.{arith}
use Rattle.exact.specs.Fraction.{Ratio}
use Rattle.exact.specs.Series.{one_over}

unfoldable pub half : Ratio
half = one_over 2 (omega arith)
