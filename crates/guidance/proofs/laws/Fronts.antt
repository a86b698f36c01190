-- The front of ranges 4 to 6 is never faster than 200 m/s (request 6). Assumes nothing.
use Rattle.std.specs.Prelude.{ℕ, suc, ◌≤◌, ◌<◌, ◌≡◌}
use Rattle.std.proofs.Math.Option.{some}
use Rattle.std.proofs.Math.Decide.{dec_le}
use native.Mathlib.Omega.{arith}
use Rattle.std.proofs.Common.{le-ltb}
use Rattle.exact.specs.Fraction.{whole, of_ratio, ◌⊑◌}
use Rattle.exact.specs.Bracket.{Bracket}
use Rattle.exact.specs.Formula.{Formula, bracket_at}
use Rattle.exact.proofs.laws.Least.{least_up_to, const_up_to}
use Rattle.guidance.specs.declared.Case.{Case}
use Rattle.guidance.specs.Clouds.{range_of}
use Rattle.guidance.specs.Waves.{range_end, slow_front, front_speed_of, front_speed}

module _ (mass n : ℕ) (A : Bracket) where
  abbrev UpTo200 : Formula → Type 0
  UpTo200 x = bracket_at x n ≡ some A → A.hi ⊑ of_ratio (whole 200)

  from_range_4 : (range : ℕ) → 4 ≤ range → Dec (range < 5) → UpTo200 (front_speed_of range mass)
  unfolding front_speed_of slow_front range_end
  from_range_4 range l (yes h) = let is_4 : range ≡ 4 = omega arith in rw (is_4) (const_up_to _ n A)
  from_range_4 range l (no h) = rw (le-ltb range 5 (omega arith)) (least_up_to _ _ n A)

-- no bracket of V reaches above 200
pub never_faster : (c : Case) → 4 ≤ range_of c → (n : ℕ) (A : Bracket) → bracket_at (front_speed c) n ≡ some A → A.hi ⊑ of_ratio (whole 200)
unfolding front_speed
never_faster c l n A = from_range_4 c.mass n A (range_of c) l (dec_le (suc (range_of c)) 5)
