-- e^y for a rest y < 2^-8: 1 + y + y²/2 and 12 units above it. Assumes nothing.
use mathlib.Core.Path.{◌≡◌}
use Prim.Native.Nat.{ℕ, ◌+◌, ◌*◌, ◌^◌, ◌≤◌, ◌<◌}
use native.Mathlib.Nat.{mul-pos, mul-le-mul, mul-le-mul_right}
use native.Mathlib.Omega.{arith}
use lib.Pow.{pow_pos}
use Rattle.exact.specs.Fraction.{Ratio, ◌≼◌, ◌≈◌, Above0, whole, ◌⊕◌, ◌⊗◌, ◌⊖◌, recip, power, sum}
use Rattle.exact.proofs.laws.Ratio.{≼_refl, ≼_trans, to≼, from≼, ⊕-mono, ⊗_mono, recip_anti, ⊖-anti}
use Rattle.exact.specs.Series.{one_over, factorial, exp_term, exp_lower, exp_tail, exp_upper}
use Rattle.exact.specs.laws.Width.{half}
use Rattle.exact.proofs.laws.Exp.{term_mono}
use Rattle.exact.proofs.laws.Reduction.{most_upper, most_mono}
use Rattle.enclosure.specs.ExpSteps.{low, high, binary, spare, ExpIn}
use Rattle.enclosure.proofs.ClosedFractions.{tested, as_binary}

-- 1 + y + y²/2, over one denominator
abbrev quadratic : (r d : ℕ) → 0 < d → Ratio
quadratic r d z = record { num = 2 * (d * d) + 2 * (r * d) + r * r; den = 2 * (d * d); positive = mul-pos (omega arith) (mul-pos z z) }

three_terms : (r d : ℕ) (z : 0 < d) → exp_lower (record { num = r; den = d; positive = z }) 3 ≈ quadratic r d z
unfolding exp_lower sum exp_term power factorial whole ◌⊕◌ ◌⊗◌
three_terms r d z = omega arith

-- rounded downward by q = r²/(2d)
rounded_down : (r d q : ℕ) (z : 0 < d) → q * (2 * d) ≤ r * r → record { num = d + r + q; den = d; positive = z } ≼ quadratic r d z
rounded_down r d q z h = record { cross = omega (arith, mul-le-mul_right d h) }

rounded_up : (r d q : ℕ) (z : 0 < d) → r * r ≤ q * (2 * d) + 2 * d → quadratic r d z ≼ record { num = d + r + q + 1; den = d; positive = z }
rounded_up r d q z h = record { cross = omega (arith, mul-le-mul_right d h) }

-- The remainder: below 10.75 units

quarter_kilo : Ratio
quarter_kilo = binary 1 8

least_room : Above0 (whole 4 ⊖ quarter_kilo)
unfolding quarter_kilo binary whole ◌⊖◌
least_room = record { above = omega arith }

remainder_closed : exp_tail quarter_kilo 3 least_room ≼ binary 43 32
unfolding quarter_kilo binary exp_tail exp_term power factorial whole recip ◌⊖◌ ◌⊗◌
remainder_closed = tested _ _ tt

remainder : (y : Ratio) → y ≼ quarter_kilo → (h : Above0 (whole 4 ⊖ y)) → exp_tail y 3 h ≼ binary 43 32
unfolding exp_tail
remainder y l h =
    ≼_trans (⊗_mono (term_mono l 3) (⊗_mono (≼_refl (whole 4)) (recip_anti least_room h (⊖-anti (whole 4) l least_room)))) remainder_closed

rest_room : (y : Ratio) → y ≼ quarter_kilo → Above0 (whole 4 ⊖ y)
unfolding quarter_kilo binary whole ◌⊖◌
rest_room y l = record { above = omega (arith, l.cross, y.positive) }

-- both parts over 2^32
together : (s : ℕ) → binary (s + 1) 30 ⊕ binary 43 32 ≼ binary (4 * s + 47) 32
unfolding binary ◌⊕◌
together s = record { cross = omega arith }

spare_is : spare ≼ binary (2 ^ 33 + 1) 33
unfolding spare binary whole power half one_over ◌⊕◌ ◌⊗◌
spare_is = tested _ _ tt

spared : (s : ℕ) → 4 * s + 47 ≤ 2 ^ 33 → binary (4 * s + 47) 32 ⊗ binary (2 ^ 33 + 1) 33 ≼ binary (s + 12) 30
unfolding binary ◌⊗◌
spared s h = record { cross = omega arith }

small_rest : (r : ℕ) → r < 2 ^ 22 → binary r 30 ≼ quarter_kilo
unfolding quarter_kilo binary
small_rest r h = record { cross = omega arith }

module _ (r q : ℕ) (small : r < 2 ^ 22) (down : q * 2 ^ 31 ≤ r * r) (up : r * r ≤ q * 2 ^ 31 + 2 ^ 31) where
  pub below_quarter : q ≤ 2 ^ 13
  below_quarter =
      let l : r ≤ 2 ^ 22 = omega arith in
      let square : r * r ≤ 2 ^ 22 * 2 ^ 22 = mul-le-mul l l in omega arith

  abbrev s : ℕ
  s = 2 ^ 30 + r + q

  series_low : binary s 30 ≼ exp_lower (binary r 30) 3
  unfolding binary
  series_low = ≼_trans (rounded_down r (2 ^ 30) q (pow_pos 30) (omega arith)) (from≼ (three_terms r (2 ^ 30) (pow_pos 30)))

  series_high : exp_lower (binary r 30) 3 ≼ binary (s + 1) 30
  unfolding binary
  series_high = ≼_trans (to≼ (three_terms r (2 ^ 30) (pow_pos 30))) (rounded_up r (2 ^ 30) q (pow_pos 30) (omega arith))

  upper_end : exp_upper (binary r 30) 3 (rest_room _ (small_rest r small)) ≼ binary (4 * s + 47) 32
  unfolding exp_upper
  upper_end = ≼_trans (⊕-mono series_high (remainder _ (small_rest r small) _)) (together s)

  rest_in : ExpIn spare 3 12 994 (binary r 30) (record { lo = s; hi = s + 12; e = 994 })
  unfolding low high
  rest_in =
      let few = below_quarter in
      record {
        normal = record { least = omega arith; most = omega arith; ordered = omega arith };
        width = record { narrow = omega arith };
        least = omega arith;
        most = omega arith;
        lower = record { begin = ≼_trans (to≼ (as_binary s 994 30 (omega arith))) series_low };
        bound = binary (4 * s + 47) 32;
        upper = most_mono (≼_refl _) (most_upper _ 3 _) upper_end;
        room = ≼_trans (⊗_mono (≼_refl _) spare_is) (≼_trans (spared s (omega arith)) (from≼ (as_binary (s + 12) 994 30 (omega arith))));
      }

  pub rest_of : (l h : ℕ) → l ≡ s → h ≡ s + 12 → ExpIn spare 3 12 994 (binary r 30) (record { lo = l; hi = h; e = 994 })
  rest_of l h el eh = rw (el, eh) rest_in
