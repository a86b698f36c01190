-- `places::Places::last` meets its contract: the last place that holds a case. Assumes nothing.
use Rattle.std.proofs.Common.{rules}
use Rattle.places.specs.laws.Trims.{last_found}
use Rattle.places.specs.Places.{stands_for}
use Rattle.places.proofs.Places.last.Goals as goal

pub returns : goal.returns
unfolding stands_for
returns c =
    last_found c.args.self.now.all c.rposition.result c.map_or.result (search rules) (search rules)
