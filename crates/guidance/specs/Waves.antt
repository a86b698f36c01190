-- Pressure and impulse of the wave as formulas (document 01, "Wave formulas"). `air` is P0 in Pa: of an answer, the case's own.
use Rattle.std.specs.Prelude.{ℕ, ◌-◌, Bool, cond, eqb, ltb}
use Rattle.std.proofs.Common.{arith}
use Rattle.exact.specs.Fraction.{Ratio, whole, of_ratio, neg}
use Rattle.exact.specs.Formula.{Formula, power_of, const, add, sub, mul, div, least, ln, exp, whole_power}
use Rattle.guidance.specs.declared.Case.{Case}
use Rattle.guidance.specs.Clouds.{over, range_of, heterogeneous, deflagrates, energy}
use Rattle.guidance.specs.Distances.{metres, nearer, cube02, cube025, cube034}

-- numbers as formulas: whole, and n units of the last decimal place
abbrev pub number : Ratio → Formula
number q = const (of_ratio q)

abbrev pub minus : Ratio → Formula
minus q = const (neg (of_ratio q))

abbrev pub tenths : ℕ → Ratio
tenths n = over n 10 (omega arith)

abbrev pub hundredths : ℕ → Ratio
hundredths n = over n 100 (omega arith)

abbrev pub thousandths : ℕ → Ratio
thousandths n = over n 1000 (omega arith)

abbrev pub ten_thousandths : ℕ → Ratio
ten_thousandths n = over n 10000 (omega arith)

-- x^a for a fraction a that is not whole: e^(a ln x)
abbrev pub raised : Ratio → Formula → Formula
raised a x = power_of (of_ratio a) x

abbrev pub half : Ratio
half = over 1 2 (omega arith)

abbrev pub third : Ratio
third = over 1 3 (omega arith)

abbrev pub two_thirds : Ratio
two_thirds = over 2 3 (omega arith)

abbrev pub sixth : Ratio
sixth = over 1 6 (omega arith)

-- whole powers are products
abbrev pub square : Formula → Formula
square x = whole_power x 2

abbrev pub cube : Formula → Formula
cube x = whole_power x 3

-- C0
abbrev pub sound : Formula
sound = number (whole 340)

-- Rx = r/(E/P0)^(1/3)
unfoldable pub reduced_distance : (air : ℕ) → Case → Formula
reduced_distance air c = div (number (metres c)) (raised third (div (number (energy c)) (number (whole air))))

-- Detonation of a gas (003): ln Px = -1.124 - 1.66 ln R + 0.26 (ln R)², ln Ix = -3.4217 - 0.898 ln R - 0.0096 (ln R)²

unfoldable pub gas_pressure : Formula → Formula
gas_pressure x = exp (add (sub (minus (thousandths 1124)) (mul (number (hundredths 166)) (ln x))) (mul (number (hundredths 26)) (square (ln x))))

unfoldable pub gas_impulse : Formula → Formula
gas_impulse x = exp (sub (sub (minus (ten_thousandths 34217)) (mul (number (thousandths 898)) (ln x))) (mul (number (ten_thousandths 96)) (square (ln x))))

-- Detonation of a heterogeneous cloud: Px = 0.125/R + 0.137/R² + 0.023/R³, Ix = 0.022/R

unfoldable pub aerosol_pressure : Formula → Formula
aerosol_pressure x = add (add (div (number (thousandths 125)) x) (div (number (thousandths 137)) (square x))) (div (number (thousandths 23)) (cube x))

unfoldable pub aerosol_impulse : Formula → Formula
aerosol_impulse x = div (number (thousandths 22)) x

-- the near field: Rx < 0.2 in a gas, Rx < 0.25 in a heterogeneous cloud; there Px = 18, and Ix is taken at 0.142, or is 0.16

unfoldable pub near_field : (air : ℕ) → Case → Bool
near_field air c = cond (heterogeneous c) (nearer cube025 air c) (nearer cube02 air c)

unfoldable pub detonation_pressure : (air : ℕ) → Case → Formula
detonation_pressure air c =
    cond (near_field air c) (number (whole 18))
    (cond (heterogeneous c) (aerosol_pressure (reduced_distance air c)) (gas_pressure (reduced_distance air c)))

unfoldable pub detonation_impulse : (air : ℕ) → Case → Formula
detonation_impulse air c =
    cond (heterogeneous c)
    (cond (near_field air c) (number (hundredths 16)) (aerosol_impulse (reduced_distance air c)))
    (gas_impulse (cond (near_field air c) (number (thousandths 142)) (reduced_distance air c)))

-- The speed that closes range 2, 3 or 4, in m/s; a mass in grams as M, in kg

unfoldable pub range_end : (range : ℕ) → ℕ
range_end range = cond (eqb range 2) 500 (cond (eqb range 3) 300 200)

abbrev pub kilograms : ℕ → Ratio
kilograms mass = over mass 1000 (omega arith)

-- The front speed V by the range and the mass in grams (document 01, "From frame to speed range"): the upper end of ranges 2, 3 and 4; in ranges 5
-- and 6 the smaller of 43 M^(1/6) or 26 M^(1/6) and the end of range 4 (request 6)

abbrev pub by_mass : (range mass : ℕ) → Formula
by_mass range mass = mul (number (whole (cond (eqb range 5) 43 26))) (raised sixth (number (kilograms mass)))

unfoldable pub slow_front : (range mass : ℕ) → Formula
slow_front range mass = least (by_mass range mass) (number (whole (range_end 4)))

unfoldable pub front_speed_of : (range mass : ℕ) → Formula
front_speed_of range mass = cond (ltb range 5) (number (whole (range_end range))) (slow_front range mass)

unfoldable pub front_speed : Case → Formula
front_speed c = front_speed_of (range_of c) c.mass

-- w = V/C0; g = (σ - 1)/σ, with σ = 7 for gas and 4 for heterogeneous

unfoldable pub mach_number : Case → Formula
mach_number c = div (front_speed c) sound

unfoldable pub expansion : Case → Formula
expansion c = cond (heterogeneous c) (number (over (4 - 1) 4 (omega arith))) (number (over (7 - 1) 7 (omega arith)))

-- Deflagration, over w, g and R: Px = w²g(0.83/R - 0.14/R²), Ix = wg(1 - 0.4gw)(0.06/R + 0.01/R² - 0.0025/R³)

unfoldable pub falling_pressure : Formula → Formula
falling_pressure x = sub (div (number (hundredths 83)) x) (div (number (hundredths 14)) (square x))

unfoldable pub falling_impulse : Formula → Formula
falling_impulse x =
    sub (add (div (number (hundredths 6)) x) (div (number (hundredths 1)) (square x))) (div (number (ten_thousandths 25)) (cube x))

unfoldable pub deflagration_pressure_at : (w g x : Formula) → Formula
deflagration_pressure_at w g x = mul (mul (square w) g) (falling_pressure x)

unfoldable pub deflagration_impulse_at : (w g x : Formula) → Formula
deflagration_impulse_at w g x = mul (mul (mul w g) (sub (number (whole 1)) (mul (mul (number (tenths 4)) g) w))) (falling_impulse x)

-- 0.34 stands for Rx where Rx < 0.34

unfoldable pub deflagration_distance : (air : ℕ) → Case → Formula
deflagration_distance air c = cond (nearer cube034 air c) (number (hundredths 34)) (reduced_distance air c)

unfoldable pub deflagration_pressure : (air : ℕ) → Case → Formula
deflagration_pressure air c = deflagration_pressure_at (mach_number c) (expansion c) (deflagration_distance air c)

unfoldable pub deflagration_impulse : (air : ℕ) → Case → Formula
deflagration_impulse air c = deflagration_impulse_at (mach_number c) (expansion c) (deflagration_distance air c)

-- Px and Ix: in ranges 2 to 6 the smaller of this and the detonation figure of the same state at the true Rx (004)

unfoldable pub reduced_pressure : (air : ℕ) → Case → Formula
reduced_pressure air c = cond (deflagrates c) (least (deflagration_pressure air c) (detonation_pressure air c)) (detonation_pressure air c)

unfoldable pub reduced_impulse : (air : ℕ) → Case → Formula
reduced_impulse air c = cond (deflagrates c) (least (deflagration_impulse air c) (detonation_impulse air c)) (detonation_impulse air c)

-- Px in Pa: Px·P0; Ix in Pa·s: Ix·P0^(2/3)·E^(1/3)/C0

unfoldable pub in_pascals : (air : ℕ) → Formula → Formula
in_pascals air px = mul px (number (whole air))

unfoldable pub in_pascal_seconds : (air : ℕ) → Case → Formula → Formula
in_pascal_seconds air c ix = div (mul (mul ix (raised two_thirds (number (whole air)))) (raised third (number (energy c)))) sound

-- ΔP and I

unfoldable pub overpressure : (air : ℕ) → Case → Formula
overpressure air c = in_pascals air (reduced_pressure air c)

unfoldable pub impulse : (air : ℕ) → Case → Formula
impulse air c = in_pascal_seconds air c (reduced_impulse air c)
