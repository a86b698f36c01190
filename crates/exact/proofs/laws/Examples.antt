-- Brackets worked by hand from 01, "What exact means": a table, computed by the checker. Assumes nothing.
use Rattle.std.specs.Prelude.{ℕ, suc, ◌-◌, ◌≡◌, refl, Bool, true, false, ◌&&◌, List, [], ◌∷◌}
use Rattle.std.proofs.lemmas.Bool.{false≢true}
use Rattle.std.proofs.Math.Logic.Dec
use Rattle.std.proofs.Math.Option.{Option, none, some}
use Rattle.std.proofs.Math.Decide.{dec_le}
use Rattle.std.proofs.Common.{arith}
use Rattle.exact.specs.Fraction.{whole, ◌⊕◌, ◌⊗◌, ◌⊖◌, recip, power, sum, Frac, of_ratio, zero_f, one_f, magnitude, ◌⊞◌, neg, ◌⊟◌, ◌⊠◌, inverse}
use Rattle.exact.specs.Bracket.{smaller, larger, Bracket, Meet, over_pairs, quotients}
use Rattle.exact.specs.Series.{one_over, even, ln_term, gap, ln_tail, series_lower, series_upper, climb, exponent, fraction, argument, third, factorial, exp_term, exp_lower, exp_tail, exp_upper}
use Rattle.exact.specs.LnExp.{ln2_lower, ln2_upper, ln_lower, ln_upper, ln_lower_at, ln_upper_at, exp_upper_of, one_over_of, exp_lower_at, exp_upper_at}
use Rattle.exact.specs.Formula.{Formula, const, sub, div, least, ln, exp, whole_power, power_of, bracket_at, lift, ◌>>◌, quotient_b, ln_b, exp_b}
use Rattle.exact.proofs.laws.Containment.{inside, inside_true}
use Rattle.exact.proofs.laws.Tests.{both_true}
use Rattle.exact.specs.laws.Decide.{dec_above0, dec_f, dec_positive, dec_positives}
use Rattle.exact.specs.laws.Pairs.{◌⊆◌}

-- p/q, for q ≥ 1
frac : (p q : ℕ) → Frac
frac p q = record { plus = p; minus = 0; den = suc (q - 1); positive = omega arith }

number : (p q : ℕ) → Formula
number p q = const (frac p q)

record Example : Type 0 where
  formula : Formula
  place : ℕ
  bracket : Option Bracket

has : Formula → ℕ → Frac → Frac → Example
has x n l h = record { formula = x; place = n; bracket = some (record { lo = l; hi = h }) }

lacks : Formula → ℕ → Example
lacks x n = record { formula = x; place = n; bracket = none }

-- ln 2 - 2/3: from 0 to 1/36 at N = 1, from 2/81 to 43/1620 at N = 2
little : Formula
little = sub (ln (number 2 1)) (number 2 3)

-- ln 2 - 17/25: from -1/75 to 13/900 at N = 1
straddling : Formula
straddling = sub (ln (number 2 1)) (number 17 25)

table : List Example
table =
    has (ln (number 2 1)) 1 (frac 2 3) (frac 25 36)
    ∷ has (ln (number 2 1)) 2 (frac 56 81) (frac 1123 1620)
    ∷ has (ln (number 3 1)) 1 (frac 16 15) (frac 11 10)
    ∷ has (ln (number 3 1)) 2 (frac 11104 10125) (frac 111241 101250)
    ∷ has (ln (number 5 2)) 1 (frac 8 9) (frac 991 1080)
    ∷ has (ln (number 1 2)) 1 (neg (frac 25 36)) (neg (frac 2 3))
    ∷ has (exp (number 1 1)) 1 (frac 1 1) (frac 3 1)
    ∷ has (exp (number 1 1)) 2 (frac 2 1) (frac 11 4)
    ∷ has (exp (number 1 1)) 3 (frac 5 2) (frac 49 18)
    ∷ lacks (exp (number 3 1)) 2
    ∷ has (exp (number 5 2)) 2 (frac 7 2) (frac 89 4)
    ∷ has (exp (number 3 1)) 3 (frac 17 2) (frac 53 2)
    ∷ has (exp (const (neg (frac 1 1)))) 2 (frac 4 11) (frac 1 2)
    ∷ lacks (exp (const (neg (frac 3 1)))) 2
    ∷ has (sub (exp (number 1 1)) (ln (number 2 1))) 1 (frac 11 36) (frac 7 3)
    ∷ has (least (ln (number 2 1)) (number 17 25)) 1 (frac 2 3) (frac 17 25)
    ∷ has (least (number 17 25) (ln (number 2 1))) 1 (frac 2 3) (frac 17 25)
    ∷ lacks (div (number 1 1) little) 1
    ∷ has (div (number 1 1) little) 2 (frac 1620 43) (frac 81 2)
    ∷ has (div straddling (exp (number 1 1))) 1 (neg (frac 1 75)) (frac 13 900)
    ∷ lacks (ln little) 1
    ∷ has (whole_power straddling 2) 1 (neg (frac 13 67500)) (frac 169 810000)
    ∷ has (power_of (frac 1 2) (number 4 1)) 2 (frac 137 81) (frac 24284569 12107880)
    ∷ []

-- the two are there and have ends of the same value, or neither is there
abbrev Agree : Option Bracket → Option Bracket → Type 0
Agree none none = Unit {0}
Agree none (some I) = ⊥
Agree (some A) none = ⊥
Agree (some A) (some I) = (A ⊆ I) × (I ⊆ A)

abbrev Worked : List Example → Type 0
Worked [] = Unit {0}
Worked (e ∷ es) = Agree (bracket_at e.formula e.place) e.bracket × Worked es

-- The computation

agrees : Option Bracket → Option Bracket → Bool
agrees none none = true
agrees none (some I) = false
agrees (some A) none = false
agrees (some A) (some I) = inside (some A) I && inside (some I) A

agrees_true : (x y : Option Bracket) → agrees x y ≡ true → Agree x y
unfolding agrees
agrees_true none none e = tt
agrees_true none (some I) e = false≢true e
agrees_true (some A) none e = false≢true e
agrees_true (some A) (some I) e =
    let b = both_true _ _ e in
    (inside_true (some A) I b.0, inside_true (some I) A b.1)

all_agree : List Example → Bool
all_agree [] = true
all_agree (e ∷ es) = agrees (bracket_at e.formula e.place) e.bracket && all_agree es

all_true : (es : List Example) → all_agree es ≡ true → Worked es
unfolding all_agree
all_true [] e = tt
all_true (x ∷ xs) e =
    let b = both_true _ _ e in
    (agrees_true _ _ b.0, all_true xs b.1)

computed : all_agree table ≡ true
unfolding table has lacks little straddling number frac all_agree agrees inside bracket_at lift ◌>>◌ quotient_b ln_b exp_b over_pairs quotients smaller larger dec_f dec_positive dec_positives Dec.and dec_above0 dec_le ln_lower_at ln_upper_at ln_lower ln_upper ln2_lower ln2_upper exponent climb fraction argument third series_lower series_upper ln_term ln_tail gap one_over even exp_lower_at exp_upper_at exp_upper_of one_over_of exp_lower exp_upper exp_term exp_tail factorial power sum recip whole ◌⊕◌ ◌⊗◌ ◌⊖◌ of_ratio zero_f one_f magnitude ◌⊞◌ neg ◌⊟◌ ◌⊠◌ inverse
computed = refl

worked : Worked table
worked = all_true table computed

-- Meeting: [0, 1] touches [1, 2] and lies apart from [2, 3]

from_to : ℕ → ℕ → Bracket
from_to l h = record { lo = frac l 1; hi = frac h 1 }

touching : Meet (from_to 0 1) (from_to 1 2)
unfolding from_to frac
touching = record { first = record { cross = omega arith }; second = record { cross = omega arith } }

apart : Meet (from_to 0 1) (from_to 2 3) → ⊥
unfolding from_to frac
apart m = omega (arith, m.second.cross)

apart_turned : Meet (from_to 2 3) (from_to 0 1) → ⊥
unfolding from_to frac
apart_turned m = omega (arith, m.first.cross)
