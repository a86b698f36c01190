-- When an interval contains a bracket, where both are there.
use Rattle.std.proofs.Math.Option.{Option, none, some}
use Rattle.exact.specs.Bracket.{Bracket}
use Rattle.exact.specs.laws.Pairs.{◌⊆◌}

-- `Inside x i`: where the interval i is there, so is the bracket x, and i contains it
abbrev pub Inside : Option Bracket → Option Bracket → Type 0
Inside x none = Unit {0}
Inside none (some I) = ⊥
Inside (some A) (some I) = A ⊆ I
