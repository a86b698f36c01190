-- `probits::thousandths` meets its contract. Assumes nothing.
use mathlib.Core.Path.{sym, subst₂}
use lib.IntN.{ℤ}
use Rattle.probits.specs.Terms.{CountedIn}
use Rattle.probits.proofs.Counting.{counted, reads_lower, reads_upper}
use Rattle.probits.proofs.thousandths.Goals as goal

pub returns : goal.returns
returns c =
    let k = counted c.requires c.floor_milli.ensures c.ceil_milli.ensures in
    subst₂ (λ (a b : ℤ). CountedIn c.args.y a b) (sym (reads_lower k.closed)) (sym (reads_upper k.closed)) k
