-- What a test decides, and what an export for C promises by its answer.
use Rattle.std.specs.Prelude.{◌≡◌, Bool, true, false}
use Rattle.span.specs.declared.Span.{Span}
use Rattle.span.specs.Spans.{Factors, Product, Divisible, Quotient}
use Rattle.fixed.specs.declared.Log.{Log}
use Rattle.enclosure.specs.Promises.{Loggable, Logarithm, Exponent, Exponential}

-- the test is true where P holds and nowhere else
abbrev pub Decides : Type 0 → Bool → Type 0
Decides P true = P
Decides P false = P → ⊥

-- true and the promise of what came back; or false, where the arguments are not what is asked, and what was lent as it was
abbrev pub Given : {A : Type 0} → Type 0 → (A → Type 0) → (before after : A) → Bool → Type 0
Given asked promise before after true = promise after
Given asked promise before after false = (asked → ⊥) × (after ≡ before)

abbrev pub LnGiven : Span → Log → Log → Bool → Type 0
LnGiven t = Given (Loggable t) (Logarithm t)

abbrev pub ExpoGiven : Log → Span → Span → Bool → Type 0
ExpoGiven y = Given (Exponent y) (Exponential y)

abbrev pub ProductGiven : Span → Span → Span → Span → Bool → Type 0
ProductGiven a b = Given (Factors a b) (Product a b)

abbrev pub QuotientGiven : Span → Span → Span → Span → Bool → Type 0
QuotientGiven a b = Given (Divisible a b) (Quotient a b)
