-- The coefficients of the probits as the source writes them, each proved to hold the definition's number. Assumes nothing.
use Rattle.std.specs.Prelude.{ℕ, pos, negsuc}
use Rattle.std.proofs.Common.{arith}
use Rattle.exact.specs.Fraction.{whole, of_ratio, neg}
use Rattle.span.specs.declared.Span.{Span}
use Rattle.span.specs.Spans.{Constant}
use Rattle.span.specs.Constants.{coefficient}
use Rattle.fixed.specs.Promises.{LogConstant}
use Rattle.fixed.specs.Enclosing.{positive_constant, negative_constant}
use Rattle.probits.specs.declared.coefficients.Strength.{Strength}
use Rattle.guidance.specs.Waves.{tenths}

abbrev pub at : (lo hi e : ℕ) → Span
at lo hi e = record { lo = lo; hi = hi; e = e }

pub weak_pressure : Constant (of_ratio (whole 17500)) 1008 (at 1146880000 1146880000 1008)
unfolding whole
weak_pressure = coefficient _ 1146880000 1146880000 1008 16 (omega arith)

pub weak_impulse : Constant (of_ratio (whole 290)) 1002 (at 1216348160 1216348160 1002)
unfolding whole
weak_impulse = coefficient _ 1216348160 1216348160 1002 22 (omega arith)

pub strong_pressure : Constant (of_ratio (whole 40000)) 1009 (at 1310720000 1310720000 1009)
unfolding whole
strong_pressure = coefficient _ 1310720000 1310720000 1009 15 (omega arith)

pub strong_impulse : Constant (of_ratio (whole 460)) 1002 (at 1929379840 1929379840 1002)
unfolding whole
strong_impulse = coefficient _ 1929379840 1929379840 1002 22 (omega arith)

-- the strengths of Pr1 and Pr2

abbrev pub weak : Strength
weak =
    record {
      pressure = at 1146880000 1146880000 1008;
      pressure_tenths = 84;
      impulse = at 1216348160 1216348160 1002;
      impulse_tenths = 93;
      factor = 2600;
    }

abbrev pub strong : Strength
strong =
    record {
      pressure = at 1310720000 1310720000 1009;
      pressure_tenths = 74;
      impulse = at 1929379840 1929379840 1002;
      impulse_tenths = 113;
      factor = 2200;
    }

pub lung_pressure : Constant (of_ratio (tenths 42)) 996 (at 1127428915 1127428916 996)
lung_pressure = coefficient _ 1127428915 1127428916 996 28 (omega arith)

pub one : Constant (of_ratio (whole 1)) 994 (at 1073741824 1073741824 994)
unfolding whole
one = coefficient _ 1073741824 1073741824 994 30 (omega arith)

pub lung_impulse : Constant (of_ratio (tenths 13)) 994 (at 1395864371 1395864372 994)
lung_impulse = coefficient _ 1395864371 1395864372 994 30 (omega arith)

pub throw_pressure : Constant (of_ratio (whole 7380)) 1006 (at 1934622720 1934622720 1006)
unfolding whole
throw_pressure = coefficient _ 1934622720 1934622720 1006 18 (omega arith)

pub throw_impulse : Constant (of_ratio (whole 1300000000)) 1024 (at 1300000000 1300000000 1024)
unfolding whole
throw_impulse = coefficient _ 1300000000 1300000000 1024 0 (omega arith)

pub five : LogConstant (of_ratio (whole 5)) (record { lo = pos 5368709120; hi = pos 5368709120 })
unfolding whole
five = positive_constant _ 5368709120 5368709120 (omega arith) (omega arith) (omega arith) (omega arith)

pub minus_twelve_six : LogConstant (neg (of_ratio (tenths 126))) (record { lo = negsuc 13529146982; hi = negsuc 13529146981 })
minus_twelve_six = negative_constant _ 13529146982 13529146981 (omega arith) (omega arith) (omega arith) (omega arith)
