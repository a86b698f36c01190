-- `vectors::judging::skip_values` meets its contract: what is left of the values is still to be passed. Assumes nothing.
use Rattle.std.proofs.Common.{◌≡◌, ◌-◌}
use Rattle.vectors.specs.Judging.{after_words}
use Rattle.vectors.proofs.judging.skip_values.Given as goal

abbrev pub invariant-loop-i : goal.invariant-loop-i
invariant-loop-i l = after_words (7 - l.i) l.words.rest.now ≡ after_words 7 l.initial.words.rest.now
