-- ln 3, and e to a whole number of either sign, as formulas, and what is promised of an interval of each: it contains every bracket from
-- `enough` on, and is no wider than 2^-24, absolutely for ln and of its upper end for e^. Assumes nothing.
use Rattle.std.specs.Prelude.{ℕ, ◌^◌, ◌≤◌}
use Rattle.std.proofs.Common.{arith}
use Rattle.exact.specs.Fraction.{Frac}
use Rattle.exact.specs.Formula.{const, ln, exp}
use Rattle.span.specs.declared.Span.{Span}
use Rattle.span.specs.Spans.{whole_f, Width}
use Rattle.span.specs.Enclosing.{Encloses}
use Rattle.fixed.specs.declared.Log.{Log}
use Rattle.fixed.specs.Logs.{Narrow, LogEncloses}
use Rattle.enclosure.specs.Promises.{enough}

pub record Ln3 (r : Log) : Type 0 where
  pub encloses : (n : ℕ) → enough ≤ n → LogEncloses r (ln (const (whole_f 3))) n
  pub narrow : Narrow r (2 ^ 6)

-- a - b
unfoldable pub signed : ℕ → ℕ → Frac
signed a b = record { plus = a; minus = b; den = 1; positive = omega arith }

pub record Power (a b : ℕ) (r : Span) : Type 0 where
  pub encloses : (n : ℕ) → enough ≤ n → Encloses r (exp (const (signed a b))) n
  pub narrow : Width r (2 ^ 6)
