-- `scan::Words::next_word` meets its contract: its parts are the word's. Assumes nothing.
use Rattle.std.proofs.Common.{rules}
use Rattle.scan.specs.Words.{lead_of, value_of, after_word}
use Rattle.scan.proofs.Words.next_word.Goals as goal

pub returns-clause-lead : goal.returns-clause-lead
unfolding lead_of
returns-clause-lead c = search rules

pub returns-clause-value : goal.returns-clause-value
unfolding value_of
returns-clause-value c = search rules

pub returns-clause-rest : goal.returns-clause-rest
unfolding after_word
returns-clause-rest c = search rules
