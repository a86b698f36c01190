-- Formulas and their rows of brackets: the N-th bracket of each, `none` where that N has none.
use Rattle.std.specs.Prelude.{ℕ, zero, suc}
use Rattle.std.proofs.Math.Option.{Option, none, some}
use Rattle.exact.specs.Fraction.{Frac, one_f, ◌⊞◌, ◌⊟◌, ◌⊠◌}
use Rattle.exact.specs.Bracket.{smaller, Bracket, over_pairs, quotients}
use Rattle.exact.specs.LnExp.{ln_lower_at, ln_upper_at, exp_lower_at, exp_upper_at}
use Rattle.exact.specs.laws.Decide.{dec_positives}

pub data Formula : Type 0 where
  const : Frac → Formula
  add sub mul div least : Formula → Formula → Formula
  ln exp : Formula → Formula

-- item 5: x · .. · x
abbrev pub whole_power : Formula → ℕ → Formula
whole_power x zero = const one_f
whole_power x (suc zero) = x
whole_power x (suc (suc n)) = mul (whole_power x (suc n)) x

-- item 5: t^a, for any other a, and roots
abbrev pub power_of : Frac → Formula → Formula
power_of a t = exp (mul (const a) (ln t))

-- item 3: there is no bracket where one that it is made from, or an end of e^, is missing
infixl 20 ◌>>◌
unfoldable pub ◌>>◌ : {A B : Type 0} → Option A → (A → Option B) → Option B
none >> f = none
some a >> f = f a

unfoldable pub lift : {A B : Type 0} → (A → A → B) → Option A → Option A → Option B
lift f x y = x >> (λ a. y >> (λ b. some (f a b)))

-- item 6: nor where a divisor, or what ln is taken of, is not wholly above 0
unfoldable pub quotient_b : Bracket → Bracket → Option Bracket
quotient_b A B = elim (dec_positives B.lo B.hi) [ yes h ↦ some (quotients A B h.0 h.1) | no h ↦ none ]

-- item 4: ln and e^ of a bracket, end by end
unfoldable pub ln_b : ℕ → Bracket → Option Bracket
ln_b n B = elim (dec_positives B.lo B.hi) [ yes h ↦ some (record { lo = ln_lower_at B.lo h.0 n; hi = ln_upper_at B.hi h.1 n }) | no h ↦ none ]

unfoldable pub exp_b : ℕ → Bracket → Option Bracket
exp_b n B = lift (λ a b. record { lo = a; hi = b }) (exp_lower_at B.lo n) (exp_upper_at B.hi n)

unfoldable pub bracket_at : Formula → ℕ → Option Bracket
bracket_at (const c) n = some (record { lo = c; hi = c })
bracket_at (add x y) n = lift (over_pairs ◌⊞◌) (bracket_at x n) (bracket_at y n)
bracket_at (sub x y) n = lift (over_pairs ◌⊟◌) (bracket_at x n) (bracket_at y n)
bracket_at (mul x y) n = lift (over_pairs ◌⊠◌) (bracket_at x n) (bracket_at y n)
bracket_at (div x y) n = bracket_at x n >> (λ A. bracket_at y n >> quotient_b A)
bracket_at (least x y) n = lift (over_pairs smaller) (bracket_at x n) (bracket_at y n)
bracket_at (ln x) n = bracket_at x n >> ln_b n
bracket_at (exp x) n = bracket_at x n >> exp_b n
