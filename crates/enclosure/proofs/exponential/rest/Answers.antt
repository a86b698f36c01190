-- `enclosure::exponential::rest` meets its contract. Assumes nothing.
use Rattle.std.proofs.Common.{◌*◌, ◌/◌, ◌^◌, rules, arith}
use Rattle.enclosure.proofs.Quadratic.{rest_of}
use Rattle.enclosure.proofs.exponential.rest.Goals as goal

pub returns : goal.returns
returns c =
    rest_of c.args.r (c.args.r * c.args.r / 2 ^ 31) (search rules) (omega arith) (omega arith) _ _ (omega arith) (omega arith)
