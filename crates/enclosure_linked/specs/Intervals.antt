-- Intervals by their numbers, as C has them. Assumes nothing.
use Rattle.std.specs.Prelude.{ℕ, ℤ}
use Rattle.span.specs.declared.Span.{Span}
use Rattle.fixed.specs.declared.Log.{Log}

abbrev pub span_of : ℕ → ℕ → ℕ → Span
span_of l u e = record { lo = l; hi = u; e = e }

abbrev pub log_of : ℤ → ℤ → Log
log_of l u = record { lo = l; hi = u }
