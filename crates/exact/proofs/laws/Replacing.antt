-- A subformula may be replaced by another whose bracket contains its: the bracket of the whole is then contained too, so that a law
-- over constants serves for a formula that comes to one. Assumes nothing.
use Rattle.std.specs.Prelude.{ℕ, suc}
use Rattle.std.proofs.Math.Option.{Option, none, some}
use Rattle.exact.specs.Fraction.{Ratio, ◌≈◌, Above0, ◌⊗◌, recip, Frac, ◌⊑◌, of_ratio}
use Rattle.exact.specs.Bracket.{Bracket, over_pairs}
use Rattle.exact.specs.Formula.{Formula, const, add, mul, div, ln, exp, bracket_at, lift, ln_b, exp_b}
use Rattle.exact.proofs.laws.Frac.{⊑_refl, ⊑_trans}
use Rattle.exact.proofs.laws.Ratio.{to≼, from≼}
use Rattle.exact.proofs.laws.EndsMeet.{of_ratio_mono}
use Rattle.exact.proofs.laws.Pairs.{Monotone, ⊞-monotone, ⊠-monotone}
use Rattle.exact.proofs.laws.Meeting.{meeting}
use Rattle.exact.proofs.laws.Inclusion.{div_inside}
use Rattle.exact.proofs.laws.Points.{point, point_inside, scale_inside, signed_above, signed_product, product_signed, positive_of, inverse_least, inverse_most}
use Rattle.exact.specs.laws.Containment.{Inside}
use Rattle.exact.proofs.laws.Containment.{pairs_inside, then_inside, ln_isotone, exp_isotone}
use Rattle.exact.proofs.laws.Nesting.{quotients_inside}

-- the n-th bracket of x lies in that of y
pub record Within (x y : Formula) (n : ℕ) : Type 0 where
  pub inside : Inside (bracket_at x n) (bracket_at y n)

same : (x : Option Bracket) → Inside x x
same none = tt
same (some A) = record { above = ⊑_refl _; below = ⊑_refl _ }

pub within_refl : (x : Formula) (n : ℕ) → Within x x n
within_refl x n = record { inside = same (bracket_at x n) }

const_within : {c d : Frac} → d ⊑ c → c ⊑ d → (n : ℕ) → Within (const c) (const d) n
unfolding bracket_at
const_within h k n = record { inside = record { above = h; below = k } }

-- for every operation that is taken over all pairs of ends
both_within : {op : Frac → Frac → Frac} → Monotone op → {x y u v : Formula} {n : ℕ} → Within x u n → Within y v n
    → Inside (lift (over_pairs op) (bracket_at x n) (bracket_at y n)) (lift (over_pairs op) (bracket_at u n) (bracket_at v n))
both_within M {x} {y} {u} {v} {n} h k =
    pairs_inside M (bracket_at x n) (bracket_at y n) (bracket_at u n) (bracket_at v n) (meeting x n n) (meeting y n n) h.inside k.inside

pub add_within : {x y u v : Formula} {n : ℕ} → Within x u n → Within y v n → Within (add x y) (add u v) n
unfolding bracket_at
add_within h k = record { inside = both_within ⊞-monotone h k }

pub mul_within : {x y u v : Formula} {n : ℕ} → Within x u n → Within y v n → Within (mul x y) (mul u v) n
unfolding bracket_at
mul_within h k = record { inside = both_within ⊠-monotone h k }

pub div_within : {x y u v : Formula} {n : ℕ} → Within x u n → Within y v n → Within (div x y) (div u v) n
unfolding bracket_at
div_within {x} {y} {u} {v} {n} h k =
    record { inside = quotients_inside (bracket_at x n) (bracket_at y n) (bracket_at u n) (bracket_at v n) (meeting x n n) (meeting y n n) h.inside k.inside }

pub ln_within : {x y : Formula} {n : ℕ} → Within x y n → Within (ln x) (ln y) n
unfolding bracket_at
ln_within {x} {y} {n} h = record { inside = then_inside (ln_b n) (ln_isotone n) (bracket_at x n) (bracket_at y n) (meeting x n n) h.inside }

pub exp_within : {x y : Formula} {k : ℕ} → Within x y (suc k) → Within (exp x) (exp y) (suc k)
unfolding bracket_at
exp_within {x} {y} {k} h =
    record { inside = then_inside (exp_b (suc k)) (exp_isotone k) (bracket_at x (suc k)) (bracket_at y (suc k)) (meeting x (suc k) (suc k)) h.inside }

chain : (x y : Option Bracket) (I : Bracket) → Inside x y → Inside y (some I) → Inside x (some I)
chain x none I h k = absurd k
chain none (some B) I h k = absurd h
chain (some A) (some B) I h k = record { above = ⊑_trans k.above h.above; below = ⊑_trans h.below k.below }

chains : (x y z : Option Bracket) → Inside x y → Inside y z → Inside x z
chains x y none h k = tt
chains x y (some I) h k = chain x y I h k

pub within_trans : {x y z : Formula} {n : ℕ} → Within x y n → Within y z n → Within x z n
within_trans {x} {y} {z} {n} h k = record { inside = chains (bracket_at x n) (bracket_at y n) (bracket_at z n) h.inside k.inside }

-- what holds the bracket of y holds that of x
pub within_inside : {x y : Formula} {n : ℕ} (I : Bracket) → Within x y n → Inside (bracket_at y n) (some I) → Inside (bracket_at x n) (some I)
within_inside {x} {y} {n} I h k = chain (bracket_at x n) (bracket_at y n) I h.inside k

-- Fractions as constants: of the same value, and a product or a quotient of two as one

pub value_within : {x y : Ratio} → x ≈ y → (n : ℕ) → Within (const (of_ratio x)) (const (of_ratio y)) n
value_within e n = const_within (of_ratio_mono (from≼ e)) (of_ratio_mono (to≼ e)) n

pub product_within : (x y : Ratio) (n : ℕ) → Within (mul (const (of_ratio x)) (const (of_ratio y))) (const (of_ratio (x ⊗ y))) n
unfolding bracket_at
product_within x y n =
    record {
      inside =
          scale_inside (of_ratio x) (signed_above x) (const (of_ratio y)) n (point (of_ratio y)) (point (of_ratio (x ⊗ y)))
          (point_inside (of_ratio y) n) (signed_product x y) (product_signed x y);
    }

pub ratio_within : (x y : Ratio) (h : Above0 y) (n : ℕ) → Within (div (const (of_ratio x)) (const (of_ratio y))) (const (of_ratio (x ⊗ recip y h))) n
unfolding bracket_at
ratio_within x y h n =
    record {
      inside =
          div_inside (const (of_ratio x)) (const (of_ratio y)) n (point (of_ratio x)) (point (of_ratio y)) (point (of_ratio (recip y h))) (point (of_ratio (x ⊗ recip y h)))
          (point_inside (of_ratio x) n) (point_inside (of_ratio y) n) (positive_of y h) (positive_of y h) (inverse_least y h) (inverse_most y h)
          (signed_above x) (signed_above (recip y h)) (signed_product x (recip y h)) (product_signed x (recip y h));
    }
