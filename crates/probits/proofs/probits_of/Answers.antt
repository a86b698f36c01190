-- `probits::probits_of` meets its contract. Assumes nothing.
use Rattle.probits.proofs.Sums.{probit1_of, probit2_of}
use Rattle.probits.proofs.probits_of.Goals as goal

pub returns : goal.returns
returns c =
    record {
      first = probit1_of c.withstood.ensures;
      second = probit2_of c.withstood-2.ensures;
      third = c.probit3.ensures;
      fourth = c.probit4.ensures;
      fifth = c.probit5.ensures;
    }
