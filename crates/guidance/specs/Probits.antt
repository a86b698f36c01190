-- The five probits as formulas of the exact overpressure and impulse (document 01, "Probits and damage").
use Rattle.std.specs.Prelude.{ℕ}
use Rattle.exact.specs.Fraction.{whole}
use Rattle.exact.specs.Formula.{Formula, add, sub, mul, div, ln}
use Rattle.guidance.specs.declared.Case.{Case}
use Rattle.guidance.specs.Waves.{number, minus, tenths, hundredths, thousandths, raised, half, third, overpressure, impulse}

-- over P = ΔP and I: 5 - 0.26 ln[(17500/P)^8.4 + (290/I)^9.3]
unfoldable pub probit1_at : (p i : Formula) → Formula
probit1_at p i = sub (number (whole 5)) (mul (number (hundredths 26)) (ln (add (raised (tenths 84) (div (number (whole 17500)) p)) (raised (tenths 93) (div (number (whole 290)) i)))))

-- 5 - 0.22 ln[(40000/P)^7.4 + (460/I)^11.3]
unfoldable pub probit2_at : (p i : Formula) → Formula
probit2_at p i = sub (number (whole 5)) (mul (number (hundredths 22)) (ln (add (raised (tenths 74) (div (number (whole 40000)) p)) (raised (tenths 113) (div (number (whole 460)) i)))))

-- 5 - 5.74 ln[4.2/(1 + P/P0) + 1.3·P0^(1/2)·m^(1/3)/I]
unfoldable pub probit3_at : (air body : ℕ) (p i : Formula) → Formula
probit3_at air body p i =
    sub (number (whole 5))
    (mul (number (hundredths 574))
    (ln
    (add (div (number (tenths 42)) (add (number (whole 1)) (div p (number (whole air)))))
    (div (mul (mul (number (tenths 13)) (raised half (number (whole air)))) (raised third (number (whole body)))) i))))

-- -12.6 + 1.524 ln P
unfoldable pub probit4_at : (p : Formula) → Formula
probit4_at p = add (minus (tenths 126)) (mul (number (thousandths 1524)) (ln p))

-- 5 - 2.44 ln[7380/P + 1,300,000,000/(P·I)]
unfoldable pub probit5_at : (p i : Formula) → Formula
probit5_at p i = sub (number (whole 5)) (mul (number (hundredths 244)) (ln (add (div (number (whole 7380)) p) (div (number (whole 1300000000)) (mul p i)))))

-- of a case
unfoldable pub probit1 : (air : ℕ) → Case → Formula
probit1 air c = probit1_at (overpressure air c) (impulse air c)

unfoldable pub probit2 : (air : ℕ) → Case → Formula
probit2 air c = probit2_at (overpressure air c) (impulse air c)

unfoldable pub probit3 : (air : ℕ) → Case → Formula
probit3 air c = probit3_at air c.body (overpressure air c) (impulse air c)

unfoldable pub probit4 : (air : ℕ) → Case → Formula
probit4 air c = probit4_at (overpressure air c)

unfoldable pub probit5 : (air : ℕ) → Case → Formula
probit5 air c = probit5_at (overpressure air c) (impulse air c)
