-- `blast::energy` meets its contract. Assumes nothing.
use native.Mathlib.Omega.{arith}
use borrow.Author.Rules.{rules}
use mathlib.Core.Bool.{true}
use Rattle.guidance.specs.CloudWords.{reduction}
use Rattle.span.specs.Constants.{coefficient}
use Rattle.blast.proofs.Joules.{quarters_factors, energy_plain, energy_reduced}
use Rattle.blast.proofs.energy.Goals as goal

pub mul-requires : goal.mul-requires
mul-requires c =
    quarters_factors c.requires c.fraction-words.ensures (search rules) (coefficient (reduction true) _ _ 993 31 (omega arith))

pub returns-then-k : goal.returns-then-k
returns-then-k c =
    energy_reduced c.requires c.fraction-words.ensures (search rules) (coefficient (reduction true) _ _ 993 31 (omega arith)) c.if-k.true c.mul.ensures

pub returns-else-k : goal.returns-else-k
returns-else-k c =
    energy_plain c.requires c.fraction-words.ensures (search rules) c.if-k.false
