-- `vectors::judging::are_right` meets its contract: the figures passed are right. Assumes nothing.
use Rattle.std.proofs.Common.{◌≡◌, ◌-◌}
use Rattle.vectors.specs.Judging.{figures_right}
use Rattle.vectors.proofs.judging.are_right.Given as goal

abbrev pub invariant-loop-i : goal.invariant-loop-i
invariant-loop-i l = figures_right (7 - l.i) l.i l.words.rest.now l.area l.table ≡ figures_right 7 0 l.values l.area l.table
