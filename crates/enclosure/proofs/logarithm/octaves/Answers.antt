-- `enclosure::logarithm::octaves` meets its contract. Assumes nothing.
use native.Mathlib.Omega.{arith}
use lib.Dec.{lit≤}
use Rattle.exact.specs.Fraction.{whole, ◌⊕◌, ◌⊗◌, power, sum}
use Rattle.exact.specs.Series.{series_lower, ln_term, even, third, one_over}
use Rattle.exact.proofs.laws.Width.{ninth}
use borrow.Author.Rules.{rules}
use Rattle.enclosure.proofs.LnPoint.{octaves_of}
use Rattle.enclosure.proofs.logarithm.octaves.Goals as goal

pub returns : goal.returns
unfolding series_lower sum ln_term power even third ninth one_over whole ◌⊕◌ ◌⊗◌
returns c =
    octaves_of _ _ _ _ _ (search rules) (omega arith) (record { low = record { bound = lit≤ tt }; high = record { bound = lit≤ tt } }) c.odd_series.ensures
