-- `scan::number` meets its contract: no number is greater than the largest. Assumes nothing.
use Rattle.scan.proofs.Reading.{spelled_small}
use Rattle.std.proofs.Common.{rules}
use Rattle.scan.proofs.number.Goals as goal

pub returns-clause-small : goal.returns-clause-small
returns-clause-small c = let h = spelled_small c.args.word.now in search (rules, spelled_small)
