-- For the callers: what ln and e^ promise of the points, lifted to the N-th bracket of a formula. Assumes nothing.
use Rattle.std.specs.Prelude.{ℕ, ◌+◌, ◌^◌, ◌≤◌, ℤ, pos, negsuc}
use Rattle.std.proofs.Common.{arith}
use Rattle.exact.specs.Formula.{Formula, ln, exp}
use Rattle.span.specs.declared.Span.{Span}
use Rattle.span.specs.Spans.{Width}
use Rattle.span.specs.Enclosing.{Encloses}
use Rattle.span.specs.Unary.{ln_encloses, exp_encloses}
use Rattle.fixed.specs.declared.Log.{Log}
use Rattle.fixed.specs.Logs.{up, dn, Small, LogEncloses}
use Rattle.enclosure.specs.Promises.{enough, reach, Logarithm, Exponential}

pub logarithm_encloses : {t : Span} {r : Log} {x : Formula} {n : ℕ} → Logarithm t r → enough ≤ n → Encloses t x n → LogEncloses r (ln x) n
logarithm_encloses {x = x} {n = n} l h k = record { inside = ln_encloses x n k.inside l.positive λ p m z. l.holds p m z n h }

pub expo_encloses : {y : Log} {r : Span} {x : Formula} {n : ℕ} → Exponential y r → enough ≤ n → LogEncloses y x n → Encloses r (exp x) n
expo_encloses {x = x} {n = n} e l h = record { inside = exp_encloses x n h.inside (λ p m. e.holds p m n l) }

-- the size of a logarithm of a span from 2^-k up to 2^(k+1)
pub logarithm_small : {t : Span} {r : Log} {D : ℕ} (k : ℕ) → Logarithm t r → Width t D → D ≤ 2 ^ 15 → 993 ≤ t.e + k → t.e ≤ 994 + k → Small r (reach k + D + 18)
logarithm_small {r = r} {D = D} k l w d a b =
    within r.lo r.hi l.ordered.ordered (l.least D w d k a) (omega (arith, l.most k b))
  where
    within : (lo hi : ℤ) {M : ℕ} → up lo + dn hi ≤ up hi + dn lo → dn lo ≤ M → up hi ≤ M → Small (record { lo = lo; hi = hi }) M
    within (pos a) (pos b) o l m = record { lo_up = omega arith; lo_dn = omega arith; hi_up = omega arith; hi_dn = omega arith }
    within (pos a) (negsuc b) o l m = record { lo_up = omega arith; lo_dn = omega arith; hi_up = omega arith; hi_dn = omega arith }
    within (negsuc a) (pos b) o l m = record { lo_up = omega arith; lo_dn = omega arith; hi_up = omega arith; hi_dn = omega arith }
    within (negsuc a) (negsuc b) o l m = record { lo_up = omega arith; lo_dn = omega arith; hi_up = omega arith; hi_dn = omega arith }
