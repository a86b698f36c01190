-- What the ends of ln divide by is above 0: the evidence that their definitions carry. Assumes nothing.
use Rattle.std.specs.Prelude.{suc, ◌+◌, ◌*◌, ◌-◌, ◌≤◌, ◌<◌}
use Rattle.std.proofs.Common.{mul-le-mul, mul-le-mul_right, arith}
use Rattle.exact.specs.Fraction.{Ratio, ◌≼◌, Above0, whole, ◌⊕◌, ◌⊗◌, ◌⊖◌, recip, Frac, ◌⊑◌, Positive, of_ratio, one_f, magnitude}
use Rattle.exact.specs.Series.{one_over, gap, fraction, argument, third}
use Rattle.exact.specs.laws.Decide.{⊑-total}

-- 1 - u² is above 0
gap_below : (u : Ratio) → u.num < u.den → Above0 (gap u)
unfolding gap whole ◌⊖◌ ◌⊗◌
gap_below u l = omega (arith, mul-le-mul l l)

pub gap_argument : (f : Ratio) → Above0 f → Above0 (gap (argument f))
unfolding argument whole recip ◌⊖◌ ◌⊗◌ ◌⊕◌
gap_argument f h = gap_below (argument f) (omega (arith, mul-le-mul_right f.den (below f.positive)))
  where
    below : 0 < f.den → suc (f.num * 1 - 1 * f.den) ≤ f.num + f.den
    below z = omega arith

pub gap_third : Above0 (gap third)
unfolding gap third one_over whole ◌⊖◌ ◌⊗◌
gap_third = omega arith

pub fraction_above : (t : Ratio) → whole 1 ≼ t → Above0 (fraction t)
unfolding fraction one_over whole ◌⊗◌
fraction_above t l = omega (arith, t.positive)

pub magnitude_above : (x : Frac) → Positive x → Above0 (magnitude x)
unfolding magnitude
magnitude_above x h = omega arith

pub one_magnitude : {x : Frac} → one_f ⊑ x → whole 1 ≼ magnitude x
unfolding one_f of_ratio whole magnitude
one_magnitude h = omega arith

pub one_recip : (x : Frac) (h : Above0 (magnitude x)) → ¬ (one_f ⊑ x) → whole 1 ≼ recip (magnitude x) h
unfolding one_f of_ratio whole magnitude recip
one_recip x h n = go (⊑-total one_f x n)
  where
    go : x ⊑ one_f → whole 1 ≼ recip (magnitude x) h
    go l = omega arith
