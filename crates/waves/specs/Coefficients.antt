-- The coefficients of the wave formulas as the source writes them, each proved to hold the definition's number. Assumes nothing.
use Rattle.std.specs.Prelude.{◌-◌, negsuc}
use Rattle.std.proofs.Common.{arith}
use Rattle.exact.specs.Fraction.{Ratio, whole, of_ratio, neg}
use Rattle.span.specs.declared.Span.{Span}
use Rattle.span.specs.Spans.{Constant}
use Rattle.span.specs.Constants.{coefficient}
use Rattle.fixed.specs.declared.Log.{Log}
use Rattle.fixed.specs.Promises.{LogConstant}
use Rattle.fixed.specs.Enclosing.{negative_constant}
use Rattle.guidance.specs.Clouds.{over}
use Rattle.guidance.specs.Waves.{tenths, hundredths, thousandths, ten_thousandths}

-- Heterogeneous detonation: 0.125, 0.137 and 0.023 of the pressure, 0.022 of the impulse

abbrev pub aerosol_first : Span
aerosol_first = record { lo = 1073741824; hi = 1073741824; e = 991 }

abbrev pub aerosol_second : Span
aerosol_second = record { lo = 1176821039; hi = 1176821040; e = 991 }

abbrev pub aerosol_third : Span
aerosol_third = record { lo = 1580547964; hi = 1580547965; e = 988 }

abbrev pub aerosol_push : Span
aerosol_push = record { lo = 1511828488; hi = 1511828489; e = 988 }

pub aerosol_first_lem : Constant (of_ratio (thousandths 125)) 991 aerosol_first
aerosol_first_lem = coefficient _ _ _ _ 33 (omega arith)

pub aerosol_second_lem : Constant (of_ratio (thousandths 137)) 991 aerosol_second
aerosol_second_lem = coefficient _ _ _ _ 33 (omega arith)

pub aerosol_third_lem : Constant (of_ratio (thousandths 23)) 988 aerosol_third
aerosol_third_lem = coefficient _ _ _ _ 36 (omega arith)

pub aerosol_push_lem : Constant (of_ratio (thousandths 22)) 988 aerosol_push
aerosol_push_lem = coefficient _ _ _ _ 36 (omega arith)

-- Deflagration, pressure: 0.83 and 0.14

abbrev pub falling_first : Span
falling_first = record { lo = 1782411427; hi = 1782411428; e = 993 }

abbrev pub falling_second : Span
falling_second = record { lo = 1202590842; hi = 1202590843; e = 991 }

pub falling_first_lem : Constant (of_ratio (hundredths 83)) 993 falling_first
falling_first_lem = coefficient _ _ _ _ 31 (omega arith)

pub falling_second_lem : Constant (of_ratio (hundredths 14)) 991 falling_second
falling_second_lem = coefficient _ _ _ _ 33 (omega arith)

-- Deflagration, impulse: 0.06, 0.01 and 0.0025

abbrev pub push_first : Span
push_first = record { lo = 2061584302; hi = 2061584303; e = 989 }

abbrev pub push_second : Span
push_second = record { lo = 1374389534; hi = 1374389535; e = 987 }

abbrev pub push_third : Span
push_third = record { lo = 1374389534; hi = 1374389535; e = 985 }

pub push_first_lem : Constant (of_ratio (hundredths 6)) 989 push_first
push_first_lem = coefficient _ _ _ _ 35 (omega arith)

pub push_second_lem : Constant (of_ratio (hundredths 1)) 987 push_second
push_second_lem = coefficient _ _ _ _ 37 (omega arith)

pub push_third_lem : Constant (of_ratio (ten_thousandths 25)) 985 push_third
push_third_lem = coefficient _ _ _ _ 39 (omega arith)

-- 1 and 0.4 of 1 - 0.4gw

abbrev pub one : Span
one = record { lo = 1073741824; hi = 1073741824; e = 994 }

abbrev pub four_tenths : Span
four_tenths = record { lo = 1717986918; hi = 1717986919; e = 992 }

pub one_is : Constant (of_ratio (whole 1)) 994 one
unfolding whole
one_is = coefficient _ _ _ _ 30 (omega arith)

pub four_tenths_lem : Constant (of_ratio (tenths 4)) 992 four_tenths
four_tenths_lem = coefficient _ _ _ _ 32 (omega arith)

-- C0, 340 m/s

abbrev pub sound_speed : Span
sound_speed = record { lo = 1426063360; hi = 1426063360; e = 1002 }

pub sound_speed_lem : Constant (of_ratio (whole 340)) 1002 sound_speed
unfolding whole
sound_speed_lem = coefficient _ _ _ _ 22 (omega arith)

-- g = (σ - 1)/σ: 6/7 for gas, σ = 7, and 3/4 for a heterogeneous cloud, σ = 4

abbrev pub six_sevenths : Ratio
six_sevenths = over (7 - 1) 7 (omega arith)

abbrev pub three_quarters : Ratio
three_quarters = over (4 - 1) 4 (omega arith)

abbrev pub gas_expansion : Span
gas_expansion = record { lo = 1840700269; hi = 1840700270; e = 993 }

abbrev pub aerosol_expansion : Span
aerosol_expansion = record { lo = 1610612736; hi = 1610612736; e = 993 }

pub gas_expansion_lem : Constant (of_ratio six_sevenths) 993 gas_expansion
gas_expansion_lem = coefficient _ _ _ _ 31 (omega arith)

pub aerosol_expansion_lem : Constant (of_ratio three_quarters) 993 aerosol_expansion
aerosol_expansion_lem = coefficient _ _ _ _ 31 (omega arith)

-- Gas detonation: -1.124 of ln Px and -3.4217 of ln Ix

abbrev pub pressure_start : Log
pressure_start = record { lo = negsuc 1206885810; hi = negsuc 1206885809 }

abbrev pub impulse_start : Log
impulse_start = record { lo = negsuc 3674022399; hi = negsuc 3674022398 }

pub pressure_start_lem : LogConstant (neg (of_ratio (thousandths 1124))) pressure_start
pressure_start_lem = negative_constant _ 1206885810 1206885809 (omega arith) (omega arith) (omega arith) (omega arith)

pub impulse_start_lem : LogConstant (neg (of_ratio (ten_thousandths 34217))) impulse_start
impulse_start_lem = negative_constant _ 3674022399 3674022398 (omega arith) (omega arith) (omega arith) (omega arith)

-- The front speed: 43 and 26 of ranges 5 and 6

abbrev pub factor43 : Span
factor43 = record { lo = 1442840576; hi = 1442840576; e = 999 }

abbrev pub factor26 : Span
factor26 = record { lo = 1744830464; hi = 1744830464; e = 998 }

pub factor_43 : Constant (of_ratio (whole 43)) 999 factor43
unfolding whole
factor_43 = coefficient _ _ _ _ 25 (omega arith)

pub factor_26 : Constant (of_ratio (whole 26)) 998 factor26
unfolding whole
factor_26 = coefficient _ _ _ _ 26 (omega arith)
