-- `known_columns::places_of` is safe; what is left of the text falls with each pair of words. Assumes nothing.
use Rattle.std.proofs.Common.{length}
use Rattle.known_columns.proofs.places_of.Given as goal

abbrev pub decreases-loop-words : goal.decreases-loop-words
decreases-loop-words l = length l.words.rest.now
