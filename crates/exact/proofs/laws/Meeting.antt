-- THE MEETING THEOREM: any two brackets of one formula meet. Assumes nothing.
use Rattle.std.specs.Prelude.{ℕ, ◌≡◌}
use Rattle.std.proofs.Common.{subst₂}
use Rattle.std.proofs.Math.Option.{Option, none, some}
use Rattle.exact.specs.Fraction.{Frac, ◌⊑◌}
use Rattle.exact.specs.Bracket.{larger, Bracket, over_pairs, Meet}
use Rattle.exact.specs.LnExp.{exp_lower_at, exp_upper_at}
use Rattle.exact.specs.Formula.{Formula, ◌>>◌, add, bracket_at, const, div, exp, exp_b, least, lift, ln, ln_b, mul, sub, quotient_b}
use Rattle.exact.specs.Exact.{AnyTwoMeet}
use Rattle.exact.specs.laws.Decide.{dec_positives, decided₂}
use Rattle.exact.proofs.laws.EndsMeet.{Below, ln_below, exp_below}
use Rattle.exact.proofs.laws.Frac.{positive_mono, ⊑_refl, ⊑_trans, larger_left, larger_right, larger_lub}
use Rattle.exact.proofs.laws.Pairs.{quotients_hold, Monotone, pairs_hold, ⊞-monotone, ⊟-monotone, ⊠-monotone, smaller_monotone}
use Rattle.exact.specs.Holding.{◌∈◌}

-- Meeting, where both brackets are there: the first's lower end is at most the second's upper end
abbrev pub Meets : Option Bracket → Option Bracket → Type 0
Meets none y = Unit {0}
Meets (some A) none = Unit {0}
Meets (some A) (some B) = A.lo ⊑ B.hi

-- both ways round, and each with itself
record Meeting (x y : Option Bracket) : Type 0 where
  xx : Meets x x
  xy : Meets x y
  yx : Meets y x
  yy : Meets y y

-- a row whose brackets meet, at two places
both : (r : ℕ → Option Bracket) → ((m n : ℕ) → Meets (r m) (r n)) → (m n : ℕ) → Meeting (r m) (r n)
both r h m n = record { xx = h m m; xy = h m n; yx = h n m; yy = h n n }

-- two brackets that meet share their larger lower end
shared : {A B : Bracket} → Meeting (some A) (some B) → (p : Frac) × (p ∈ A) × (p ∈ B)
shared {A} {B} h = (
  larger A.lo B.lo,
  record { above = larger_left A.lo B.lo; below = larger_lub h.xx h.yx },
  record { above = larger_right A.lo B.lo; below = larger_lub h.xy h.yy },
)

pairs_meet : {op : Frac → Frac → Frac} → Monotone op → (x y u v : Option Bracket) → Meeting x y → Meeting u v
    → Meets (lift (over_pairs op) x u) (lift (over_pairs op) y v)
unfolding lift ◌>>◌
pairs_meet M none y u v h k = tt
pairs_meet M (some A) y none v h k = tt
pairs_meet M (some A) none (some C) v h k = tt
pairs_meet M (some A) (some B) (some C) none h k = tt
pairs_meet M (some A) (some B) (some C) (some D) h k =
    let p = shared h in
    let q = shared k in
    ⊑_trans (pairs_hold M p.1 q.1).above (pairs_hold M p.2 q.2).below

-- an operation on one bracket carries meeting over
abbrev Carries : (ℕ → Bracket → Option Bracket) → Type 0
Carries f = (m n : ℕ) (A B : Bracket) → A.lo ⊑ B.hi → B.lo ⊑ A.hi → Meets (f m A) (f n B)

meets_none : (x : Option Bracket) → Meets x none
meets_none none = tt
meets_none (some A) = tt

then_meet : (f : ℕ → Bracket → Option Bracket) → Carries f → (m n : ℕ) (x y : Option Bracket) → Meets x y → Meets y x
    → Meets (x >> f m) (y >> f n)
unfolding ◌>>◌
then_meet f c m n none y h k = tt
then_meet f c m n (some A) none h k = meets_none (f m A)
then_meet f c m n (some A) (some B) h k = c m n A B h k

-- the same for the quotient
quotients_meet : (x y u v : Option Bracket) → Meeting x y → Meeting u v
    → Meets (x >> (λ A. u >> quotient_b A)) (y >> (λ A. v >> quotient_b A))
unfolding ◌>>◌ quotient_b
quotients_meet none y u v h k = tt
quotients_meet (some A) y none v h k = tt
quotients_meet (some A) none (some C) v h k = meets_none (quotient_b A C)
quotients_meet (some A) (some B) (some C) none h k = meets_none (quotient_b A C)
quotients_meet (some A) (some B) (some C) (some D) h k =
    decided₂ Meets (dec_positives C.lo C.hi) (dec_positives D.lo D.hi)
    (λ a c.
    let p = shared h in
    let q = shared k in
    let z = positive_mono a.0 q.1.above in
    ⊑_trans (quotients_hold p.1 q.1 z a.0 a.1).above (quotients_hold p.2 q.2 z c.0 c.1).below)
    (λ a c. tt)
    (λ a c. tt)
    (λ a c. tt)

ln_carries : Carries ln_b
unfolding ln_b
ln_carries m n A B h k =
    decided₂ Meets (dec_positives A.lo A.hi) (dec_positives B.lo B.hi) (λ a b. ln_below A.lo B.hi a.0 b.1 h m n)
    (λ a b. tt) (λ a b. tt) (λ a b. tt)

-- a bracket from its ends, where both are there
abbrev pub ends : Option Frac → Option Frac → Option Bracket
ends x y = lift (λ a b. record { lo = a; hi = b }) x y

ends_meet : (a b c d : Option Frac) → Below a d → Meets (ends a b) (ends c d)
unfolding lift ◌>>◌
ends_meet none b c d h = tt
ends_meet (some a) none c d h = tt
ends_meet (some a) (some b) none d h = tt
ends_meet (some a) (some b) (some c) none h = tt
ends_meet (some a) (some b) (some c) (some d) h = h

exp_carries : Carries exp_b
unfolding exp_b
exp_carries m n A B h k =
    ends_meet (exp_lower_at A.lo m) (exp_upper_at A.hi m) (exp_lower_at B.lo n) (exp_upper_at B.hi n) (exp_below A.lo B.hi h m n)

-- THE MEETING THEOREM, one way round: exchange m and n for the other
pub meeting : (x : Formula) (m n : ℕ) → Meets (bracket_at x m) (bracket_at x n)
unfolding bracket_at
meeting (const c) m n = ⊑_refl c
meeting (add x y) m n = pairs_meet ⊞-monotone _ _ _ _ (both (bracket_at x) (meeting x) m n) (both (bracket_at y) (meeting y) m n)
meeting (sub x y) m n = pairs_meet ⊟-monotone _ _ _ _ (both (bracket_at x) (meeting x) m n) (both (bracket_at y) (meeting y) m n)
meeting (mul x y) m n = pairs_meet ⊠-monotone _ _ _ _ (both (bracket_at x) (meeting x) m n) (both (bracket_at y) (meeting y) m n)
meeting (div x y) m n = quotients_meet _ _ _ _ (both (bracket_at x) (meeting x) m n) (both (bracket_at y) (meeting y) m n)
meeting (least x y) m n = pairs_meet smaller_monotone _ _ _ _ (both (bracket_at x) (meeting x) m n) (both (bracket_at y) (meeting y) m n)
meeting (ln x) m n = then_meet ln_b ln_carries m n (bracket_at x m) (bracket_at x n) (meeting x m n) (meeting x n m)
meeting (exp x) m n = then_meet exp_b exp_carries m n (bracket_at x m) (bracket_at x n) (meeting x m n) (meeting x n m)

-- the same with the two brackets named
pub brackets_meet : (x : Formula) (m n : ℕ) (A B : Bracket) → bracket_at x m ≡ some A → bracket_at x n ≡ some B → Meet A B
brackets_meet x m n A B p q = record { first = subst₂ Meets p q (meeting x m n); second = subst₂ Meets q p (meeting x n m) }

pub any_two_meet : (x : Formula) → AnyTwoMeet x
any_two_meet x = record { meet = λ m n o q A B h k. brackets_meet x m n A B h k }
