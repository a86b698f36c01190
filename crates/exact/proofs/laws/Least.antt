-- The smaller of a formula and a number is never above the number. Assumes nothing.
use Rattle.std.specs.Prelude.{ℕ, ◌≡◌}
use Rattle.std.proofs.Common.{subst}
use Rattle.std.proofs.Math.Option.{Option, none, some}
use Rattle.exact.specs.Fraction.{Frac, ◌⊑◌}
use Rattle.exact.specs.Bracket.{Bracket, smaller, over_pairs}
use Rattle.exact.specs.Formula.{Formula, const, least, bracket_at, lift, ◌>>◌}
use Rattle.exact.proofs.laws.Frac.{⊑_refl, smaller_right, larger_lub}

-- the upper end is at most c, wherever there is a bracket
abbrev UpTo : Frac → Option Bracket → Type 0
UpTo c none = Unit {0}
UpTo c (some A) = A.hi ⊑ c

smaller_up_to : (x : Option Bracket) (c : Frac) → UpTo c (lift (over_pairs smaller) x (some (record { lo = c; hi = c })))
unfolding lift ◌>>◌ over_pairs
smaller_up_to none c = tt
smaller_up_to (some A) c = let l = smaller_right A.lo c in let h = smaller_right A.hi c in larger_lub (larger_lub l l) (larger_lub h h)

pub least_up_to : (x : Formula) (c : Frac) (n : ℕ) (A : Bracket) → bracket_at (least x (const c)) n ≡ some A → A.hi ⊑ c
unfolding bracket_at
least_up_to x c n A e = subst (UpTo c) e (smaller_up_to (bracket_at x n) c)

pub const_up_to : (c : Frac) (n : ℕ) (A : Bracket) → bracket_at (const c) n ≡ some A → A.hi ⊑ c
unfolding bracket_at
const_up_to c n A e = subst (UpTo c) e (⊑_refl c)
