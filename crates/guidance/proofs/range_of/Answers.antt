-- `guidance::range_of` meets its contract. Assumes nothing.
use mathlib.Core.Path.{ap, ◌∙◌}
use borrow.Author.Rules.{rules}
use Rattle.guidance.specs.Ranges.{range_at}
use Rattle.guidance.specs.Clouds.{range_of}
use Rattle.guidance.proofs.laws.Limits.{class_least, class_most}
use Rattle.guidance.proofs.range_of.Goals as goal

pub range_at-requires : goal.range_at-requires
range_at-requires c =
    let s = c.args.c.substance in
    search (rules, class_least s, class_most s)

pub returns : goal.returns
unfolding range_of
returns c =
    c.range_at.ensures ∙ ap (λ class. range_at class c.args.c.surroundings) c.class_of-class.ensures
